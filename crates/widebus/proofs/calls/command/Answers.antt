-- `widebus::calls::command` meets its contract: what is asked first, the selection, and the event on the selected states.
use mathlib.Core.Path.{refl}
use Rattle.widebus.proofs.Numbered.{exits}
use Rattle.widebus.proofs.CallCode.{ranges_refuse, taken_up, both_ranged, not_selected, on_left, on_right, on_both_lem}
use Rattle.widebus.proofs.calls.command.Goals as goal

pub returns-in_err-ask_ranges : goal.returns-in_err-ask_ranges
returns-in_err-ask_ranges c = rw (exits c.from_residual.ensures.1) (ranges_refuse _ _ _ refl c.in_err-ask_ranges.ensures)

pub returns-in_err-try_from : goal.returns-in_err-try_from
returns-in_err-try_from c =
    rw (exits c.from_residual-in_err-try_from.ensures.1) (not_selected _ _ _ (taken_up _ _ _ refl c.in_ok-ask_ranges.ensures).decided c.in_err-try_from.field-0.0 c.in_err-try_from.ensures)

pub command_both-requires : goal.command_both-requires
command_both-requires c = both_ranged _ c.in_ok-ask_ranges.ensures

pub returns-in-Left : goal.returns-in-Left
returns-in-Left c = on_left _ _ _ (taken_up _ _ _ refl c.in_ok-ask_ranges.ensures) c.in_ok-try_from.ensures c.in-Left.is (c.command.ensures _)

pub returns-in-Right : goal.returns-in-Right
returns-in-Right c = on_right _ _ _ (taken_up _ _ _ refl c.in_ok-ask_ranges.ensures) c.in_ok-try_from.ensures c.in-Right.is (c.command-in-Right.ensures _)

pub returns-in-Both : goal.returns-in-Both
returns-in-Both c = on_both_lem _ _ _ (taken_up _ _ _ refl c.in_ok-ask_ranges.ensures) c.in_ok-try_from.ensures c.in-Both.is refl (c.command_both.ensures _ _)
