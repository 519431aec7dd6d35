-- Document 02, Order 4: what a call over two chips leaves as it was, and what it does to each chip it is for.
use Rattle.std.specs.Prelude.{ℕ, ◌≡◌, ◌≢◌, length, drop}
use Rattle.constants.specs.Sizes.{image_size, memory_size}
use Rattle.constants.specs.Numbers.{taken}
use Rattle.bus.specs.Chip.{Event}
use Rattle.widebus.specs.Pair.{Pair, at, Lent}
use Rattle.widebus.specs.WideCalls.{leaves, call_on, wide_call}
use Rattle.widebus.specs.WideGiven.{wide_number, TakenUp}
use Rattle.widebus.specs.declared.selection.Side.{Side}

-- What the call leaves of all that is lent.
abbrev pub after : ℕ → Event → Pair Lent → Pair Lent
after number event all = (wide_call number event all).lent

pub record WideUntouched (number : ℕ) (event : Event) (all : Pair Lent) : Type 0 where
  -- A refused event changes neither chip, in state and in memory.
  pub refused : wide_number number event all ≢ taken → after number event all ≡ all
  -- An event for the left chip alone changes nothing of the right, its refused events included.
  pub right_stays : number ≡ 1 → (after number event all).right ≡ all.right
  -- One for the right chip alone changes nothing of the left.
  pub left_stays : number ≡ 2 → (after number event all).left ≡ all.left
  -- To the selected chip it does what that chip's own call does, where neither 1 nor 2 refuses it: to the left,
  pub left_changes : TakenUp event all → number ≡ 1 → (after number event all).left ≡ leaves (call_on event all.left)
  -- or to the right.
  pub right_changes : TakenUp event all → number ≡ 2 → (after number event all).right ≡ leaves (call_on event all.right)
  -- With both selected, a taken event leaves each as its own call does.
  pub both_change : number ≡ 3 → wide_number number event all ≡ taken → ((after number event all).left ≡ leaves (call_on event all.left)) × ((after number event all).right ≡ leaves (call_on event all.right))
  -- Bytes of a lent buffer past its needed length never change.
  pub past : (side : Side) → (drop image_size (at side (after number event all)).state ≡ drop image_size (at side all).state) × (drop memory_size (at side (after number event all)).memory ≡ drop memory_size (at side all).memory)
  -- States and memories stay as long as they were.
  pub lengths : (side : Side) → (length (at side (after number event all)).state ≡ length (at side all).state) × (length (at side (after number event all)).memory ≡ length (at side all).memory)
