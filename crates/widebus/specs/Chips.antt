-- Document 02, Order 4: an event on the selected ones of two machines, by what each does of its own, and a read with both selected.
use Rattle.std.specs.Prelude.{ℕ, ◌≡◌, ◌↔◌, ◌⊎◌, ◌≢◌}
use Rattle.constants.specs.Numbers.{both_selected}
use Rattle.bus.specs.Chip.{Chip, data_read}
use Rattle.bus.specs.Result.{Result, refuses, gives}
use Rattle.bus.specs.Recorded.{Recorded, event, read_as, replay}
use Rattle.widebus.specs.Pair.{Pair}
use Rattle.widebus.specs.Events.{to_selected, replay_on}
use Rattle.widebus.specs.declared.selection.Selection.{Selection}

pub record OnTheSelected {S E : Type 0} (step : E → S → Result S) (event : E) (pair later : Pair S) (number : ℕ) : Type 0 where
  -- An event for the left one alone is taken where the left takes it, and changes nothing of the right.
  pub left_takes : to_selected step Selection.Left event pair ≡ gives later ↔ (step event pair.left ≡ gives later.left) × (later.right ≡ pair.right)
  -- It is refused with the left's number.
  pub left_refuses : to_selected step Selection.Left event pair ≡ refuses number ↔ step event pair.left ≡ refuses number
  -- One for the right alone is taken where the right takes it, and changes nothing of the left.
  pub right_takes : to_selected step Selection.Right event pair ≡ gives later ↔ (step event pair.right ≡ gives later.right) × (later.left ≡ pair.left)
  -- It is refused with the right's number.
  pub right_refuses : to_selected step Selection.Right event pair ≡ refuses number ↔ step event pair.right ≡ refuses number
  -- With both selected, it is taken where both take it, each by its own step.
  pub both_take : to_selected step Selection.Both event pair ≡ gives later ↔ (step event pair.left ≡ gives later.left) × (step event pair.right ≡ gives later.right)
  -- It is refused only with the number of one that refuses it.
  pub one_refuses : to_selected step Selection.Both event pair ≡ refuses number → (step event pair.left ≡ refuses number) ⊎ (step event pair.right ≡ refuses number)
  -- Where the left refuses, the number is the left's, whatever the right does;
  pub left_first : step event pair.left ≡ refuses number → to_selected step Selection.Both event pair ≡ refuses number
  -- where the left takes it, the right's.
  pub then_right : (left : S) → step event pair.left ≡ gives left → step event pair.right ≡ refuses number → to_selected step Selection.Both event pair ≡ refuses number

pub record OnTheChips (recorded : Recorded) (chips : Pair Chip) : Type 0 where
  -- A read with both selected is refused 14, whatever the chips would answer: before 6, 7 and 10.
  pub reads_both : recorded ≡ event data_read → replay_on Selection.Both recorded chips ≡ refuses both_selected
  -- So is one that a trace compares, whatever byte the firmware read.
  pub compares_both : (byte : ℕ) → recorded ≡ read_as byte → replay_on Selection.Both recorded chips ≡ refuses both_selected
  -- Anything else goes to each selected chip.
  pub anything_else : recorded ≢ event data_read → ((byte : ℕ) → recorded ≢ read_as byte) → replay_on Selection.Both recorded chips ≡ to_selected replay Selection.Both recorded chips
  -- So does a read of one chip.
  pub one_chip : (selection : Selection) → selection ≢ Selection.Both → replay_on selection recorded chips ≡ to_selected replay selection recorded chips
