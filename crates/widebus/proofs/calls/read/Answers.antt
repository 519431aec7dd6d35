-- `widebus::calls::read` meets its contract: what is asked first, the selection, and the event on the one selected state.
use mathlib.Core.Path.{refl}
use native.Mathlib.Omega.{arith}
use Rattle.widebus.proofs.Numbered.{exits}
use Rattle.widebus.proofs.CallCode.{ranges_refuse, taken_up, not_selected, on_left, on_right, read_both}
use Rattle.widebus.proofs.calls.read.Goals as goal

pub returns-in_err-ask_ranges : goal.returns-in_err-ask_ranges
returns-in_err-ask_ranges c = rw (exits c.from_residual.ensures.1) (ranges_refuse _ _ _ refl c.in_err-ask_ranges.ensures)

pub returns-in_err-try_from : goal.returns-in_err-try_from
returns-in_err-try_from c =
    rw (exits c.from_residual-in_err-try_from.ensures.1) (not_selected _ _ _ (taken_up _ _ _ refl c.in_ok-ask_ranges.ensures).decided c.in_err-try_from.field-0.0 c.in_err-try_from.ensures)

pub returns-in-Left : goal.returns-in-Left
returns-in-Left c = on_left _ _ _ (taken_up _ _ _ refl c.in_ok-ask_ranges.ensures) c.in_ok-try_from.ensures c.in-Left.is c.read.ensures

pub returns-in-Right : goal.returns-in-Right
returns-in-Right c = on_right _ _ _ (taken_up _ _ _ refl c.in_ok-ask_ranges.ensures) c.in_ok-try_from.ensures c.in-Right.is c.read-in-Right.ensures

pub returns-in-Both : goal.returns-in-Both
returns-in-Both c = read_both _ _ _ (taken_up _ _ _ refl c.in_ok-ask_ranges.ensures).decided c.in_ok-try_from.ensures c.in-Both.is refl (grind arith)
