-- `picture::whole::draw_shown` meets its contract: a dark row, and a bit of the page that the row lies in.
use mathlib.Core.Path.{◌∙◌}
use native.Mathlib.Omega.{arith}
use Rattle.constants.specs.Sizes.{width}
use Rattle.picture.specs.Upright.{seen}
use Rattle.picture.proofs.Lines.{line_same}
use Rattle.picture.proofs.Made.{filled_line}
use Rattle.picture.proofs.Upright.{upright_bits}
use Rattle.picture.proofs.whole.draw_shown.Goals as goal

pub returns-in-None : goal.returns-in-None
unfolding seen
returns-in-None c =
    filled_line width _ c.args.places.now c.requires.1 c.fill.ensures.after ∙ line_same width _ _ (λ x h. rw c.in-None.is (omega arith))

pub returns-in-Some : goal.returns-in-Some
unfolding seen
returns-in-Some c =
    c.copy_from_slice.ensures.after ∙ upright_bits c.args.upright.now c.in-Some.row (omega (arith, c.page.ensures)) (omega (arith, c.bit.ensures)) c.shown_page-page.ensures c.bits_of.ensures ∙ line_same width _ _ (λ x h. rw c.in-Some.is)
