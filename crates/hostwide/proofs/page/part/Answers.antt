-- `hostwide::page::part` meets its contract: both lengths, the side's number, and the page.
use mathlib.Core.Path.{◌∙◌, ap}
use Rattle.widebus.proofs.Numbered.{exits}
use Rattle.hostwide.specs.Page.{of_handed}
use Rattle.hostwide.proofs.PageCode.{short, no_side, its_page}
use Rattle.hostwide.proofs.page.part.Goals as goal

pub returns-then-left-lt-MEMORY_SIZE : goal.returns-then-left-lt-MEMORY_SIZE
returns-then-left-lt-MEMORY_SIZE c = short _ _ _ _ c.then-left-lt-MEMORY_SIZE.either

pub returns-in_err-try_from : goal.returns-in_err-try_from
returns-in_err-try_from c =
    rw (exits c.from_residual.ensures.1) (no_side _ _ _ _ c.in_err-try_from.field-0.0 c.in_err-try_from.ensures c.if-left-lt-MEMORY_SIZE.false c.if-right-lt-MEMORY_SIZE.false)

pub returns : goal.returns
returns c = ap (of_handed c.args.page) c.page.ensures ∙ its_page _ _ _ _ _ c.in_ok-try_from.ensures
