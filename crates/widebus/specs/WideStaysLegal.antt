-- Document 01's legal ranges are kept by the calls over two chips.
use Rattle.std.specs.Prelude.{ℕ, ◌≡◌, ◌⊎◌}
use Rattle.bus.specs.Chip.{Event, reset_pulse}
use Rattle.bus.specs.Image.{Accepted}
use Rattle.bus.specs.Bytes.{IsByte}
use Rattle.widebus.specs.Pair.{Pair, at, Lent}
use Rattle.widebus.specs.OneAndTwo.{BothLong}
use Rattle.widebus.specs.WideUntouched.{after}
use Rattle.widebus.specs.declared.selection.Side.{Side}

-- A chip's state and memory that 1 and 2 do not refuse.
abbrev pub IsAccepted : Lent → Type 0
IsAccepted one = Accepted one.state one.memory

pub record WideStaysLegal (number : ℕ) (all : Pair Lent) : Type 0 where
  -- A call, taken or refused, leaves each chip's state and memory accepted where they were.
  pub a_call : (event : Event) → IsByte event → (side : Side) → IsAccepted (at side all) → IsAccepted (at side (after number event all))
  -- The reset pin leaves a selected chip so, whatever its image was, if all that is lent is long enough: the left one,
  pub left_reset : BothLong all → (number ≡ 1) ⊎ (number ≡ 3) → IsAccepted (after number reset_pulse all).left
  -- and the right one.
  pub right_reset : BothLong all → (number ≡ 2) ⊎ (number ≡ 3) → IsAccepted (after number reset_pulse all).right
