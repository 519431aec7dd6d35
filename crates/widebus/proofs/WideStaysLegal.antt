-- Legal states stay legal under the calls over two chips, as each chip's own does.
-- Assumes nothing.
use mathlib.Core.Path.{◌≡◌, refl, sym, ap}
use mathlib.Core.Bool.{true≢false}
use mathlib.Core.Logic.{◌⊎◌, ⊎_elim}
use Prim.Native.Nat.{ℕ}
use Rattle.constants.specs.Numbers.{taken}
use Rattle.bus.specs.Chip.{data_read, reset_pulse}
use Rattle.bus.specs.Calls.{Called}
use Rattle.bus.proofs.CallsOnChip.{calls_on_chip}
use Rattle.bus.proofs.StaysLegal.{stays_legal}
use Rattle.widebus.specs.Pair.{Pair, at, Lent}
use Rattle.widebus.specs.OneAndTwo.{BothLong}
use Rattle.widebus.specs.Events.{is_read}
use Rattle.widebus.specs.WideCalls.{leaves, call_on}
use Rattle.widebus.specs.WideGiven.{reply_on, TakenUp}
use Rattle.widebus.specs.WideUntouched.{after}
use Rattle.widebus.specs.WideStaysLegal.{IsAccepted, WideStaysLegal}
use Rattle.widebus.specs.declared.selection.Side.{Side}
use Rattle.widebus.proofs.Endings.{of_side, leaves_so, both_take_lem}
use Rattle.widebus.proofs.WideUntouched.{each, wide_untouched}

module _ (number : ℕ) (all : Pair Lent) (long : BothLong all) where
  up : TakenUp reset_pulse all
  up = record { long_enough = long; in_ranges = λ n. absurd (n refl) }

  takes : (side : Side) → (reply_on reset_pulse (at side all)).number ≡ taken
  takes side = ap (λ (c : Called). c.reply.number) (calls_on_chip.the_reset_pin (at side all).state (at side all).memory (of_side reset_pulse all up side).0)

  both_reset : number ≡ 3 → ((after number reset_pulse all).left ≡ leaves (call_on reset_pulse all.left)) × ((after number reset_pulse all).right ≡ leaves (call_on reset_pulse all.right))
  both_reset a =
      let e = leaves_so number reset_pulse all (both_take_lem number reset_pulse all up a (λ (p : reset_pulse ≡ data_read). true≢false (sym (ap is_read p))) (takes Side.Left) (takes Side.Right)) in
      (ap (λ (p : Pair Lent). p.left) e, ap (λ (p : Pair Lent). p.right) e)

  reset : (side : Side) → IsAccepted (leaves (call_on reset_pulse (at side all)))
  reset side = stays_legal.the_reset_pin (at side all).state (at side all).memory (of_side reset_pulse all up side).0

  left_reset : (number ≡ 1) ⊎ (number ≡ 3) → IsAccepted (after number reset_pulse all).left
  left_reset h = ⊎_elim (λ a. rw ((wide_untouched number reset_pulse all).left_changes up a) (reset Side.Left)) (λ a. rw (both_reset a).0 (reset Side.Left)) h

  right_reset : (number ≡ 2) ⊎ (number ≡ 3) → IsAccepted (after number reset_pulse all).right
  right_reset h = ⊎_elim (λ a. rw ((wide_untouched number reset_pulse all).right_changes up a) (reset Side.Right)) (λ a. rw (both_reset a).1 (reset Side.Right)) h

pub wide_stays_legal : (number : ℕ) (all : Pair Lent) → WideStaysLegal number all
wide_stays_legal number all =
    record {
      a_call = λ event b side a. each number event all side (λ (one : Lent). IsAccepted one) a (stays_legal.a_call event (at side all).state (at side all).memory b a);
      left_reset = left_reset number all;
      right_reset = right_reset number all;
    }
