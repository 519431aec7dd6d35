-- `picture::page::bits` meets its contract: each place is made by a call.
use borrow.Author.Rules.{rules}
use Rattle.constants.specs.Sizes.{width}
use Rattle.picture.proofs.Made.{made_line}
use Rattle.picture.proofs.page.bits.Goals as goal

pub returns : goal.returns
returns g c = made_line _ _ width _ (λ x v after l call. search rules) c.from_fn.ensures.items
