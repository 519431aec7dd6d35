-- Document 02, Order 4: what an event does to the selected chips.
use Rattle.std.specs.Prelude.{Bool, true, false, cond, ◌&&◌}
use Rattle.constants.specs.Numbers.{both_selected}
use Rattle.bus.specs.Chip.{Chip, Event, command_byte, data_written, data_read, reset_pulse}
use Rattle.bus.specs.Result.{Result, refuses, gives, on_result}
use Rattle.bus.specs.Recorded.{Recorded, event, read_as, replay}
use Rattle.widebus.specs.Pair.{Pair, ◌beside◌}
use Rattle.widebus.specs.declared.selection.Selection.{Selection}

-- An event goes to each selected one of two machines. If any of them refuses, neither changes, and the number is the left's where both refuse.
unfoldable pub to_selected : {S E : Type 0} → (E → S → Result S) → Selection → E → Pair S → Result (Pair S)
to_selected step Selection.Left e pair = on_result (step e pair.left) refuses (λ l. gives (l beside pair.right))
to_selected step Selection.Right e pair = on_result (step e pair.right) refuses (λ r. gives (pair.left beside r))
to_selected step Selection.Both e pair = on_result (step e pair.left) refuses (λ l. on_result (step e pair.right) refuses (λ r. gives (l beside r)))

-- An event that reads.
abbrev pub is_read : Event → Bool
is_read (command_byte b) = false
is_read (data_written b) = false
is_read data_read = true
is_read reset_pulse = false

-- Something recorded that reads.
abbrev pub reads_data : Recorded → Bool
reads_data (event e) = is_read e
reads_data (read_as byte) = true

-- Both chips are selected.
abbrev pub are_both : Selection → Bool
are_both Selection.Left = false
are_both Selection.Right = false
are_both Selection.Both = true

-- What was recorded, replayed on the selected chips; a read with both selected is refused 14, before the chips are asked.
unfoldable pub replay_on : Selection → Recorded → Pair Chip → Result (Pair Chip)
replay_on selection r chips = cond (are_both selection && reads_data r) (refuses both_selected) (to_selected replay selection r chips)
