-- `widebus::calls::reset_pin` meets its contract: the lengths, the selection, and the selected chips' own calls.
use mathlib.Core.Path.{refl}
use Rattle.widebus.specs.Pair.{both_lent}
use Rattle.widebus.proofs.Numbered.{exits}
use Rattle.widebus.proofs.CallCode.{long_enough, lengths_refuse, lengths_alone, not_selected, by_left, by_right, pin_taken, pin_both}
use Rattle.widebus.proofs.calls.reset_pin.Goals as goal

pub returns-in_err-ask_lengths : goal.returns-in_err-ask_lengths
returns-in_err-ask_lengths c = rw (exits c.from_residual.ensures.1) (lengths_refuse _ _ _ c.in_err-ask_lengths.ensures)

pub returns-in_err-try_from : goal.returns-in_err-try_from
returns-in_err-try_from c =
    rw (exits c.from_residual-in_err-try_from.ensures.1) (not_selected _ _ _ (lengths_alone _ _ _ c.in_ok-ask_lengths.ensures refl) c.in_err-try_from.field-0.0 c.in_err-try_from.ensures)

pub returns-in-Left : goal.returns-in-Left
returns-in-Left c = by_left _ _ _ (lengths_alone _ _ _ c.in_ok-ask_lengths.ensures refl) c.in_ok-try_from.ensures c.in-Left.is c.reset_pin.ensures

pub returns-in-Right : goal.returns-in-Right
returns-in-Right c = by_right _ _ _ (lengths_alone _ _ _ c.in_ok-ask_lengths.ensures refl) c.in_ok-try_from.ensures c.in-Right.is c.reset_pin-in-Right.ensures

pub returns-in_err-reset_pin-in-Both : goal.returns-in_err-reset_pin-in-Both
returns-in_err-reset_pin-in-Both c =
    let a = c.args in
    let all = both_lent a.left_state.now a.left_memory.now a.right_state.now a.right_memory.now in
    absurd (pin_taken a.selection all (lengths_alone _ _ _ c.in_ok-ask_lengths.ensures refl) (long_enough _ c.in_ok-ask_lengths.ensures) c.in_err-reset_pin-in-Both.field-0.0 c.in_err-reset_pin-in-Both.ensures)

pub returns-in_ok-reset_pin-in-Both : goal.returns-in_ok-reset_pin-in-Both
returns-in_ok-reset_pin-in-Both c =
    pin_both _ _ (lengths_alone _ _ _ c.in_ok-ask_lengths.ensures refl) (long_enough _ c.in_ok-ask_lengths.ensures) c.in_ok-try_from.ensures c.in-Both.is c.in_ok-reset_pin-in-Both.ensures c.reset_pin-in-Both-2.ensures
