-- The event calls of the wide terminal: the whole outcome as one function of what is lent, by the calls of one chip.
use Rattle.std.specs.Prelude.{ℕ, Bool, true, false, cond, not, ◌&&◌, eqb}
use Rattle.constants.specs.Numbers.{taken, too_short, out_of_range, both_selected}
use Rattle.bus.specs.Image.{legal}
use Rattle.bus.specs.Chip.{Event, command_byte, data_written, data_read, reset_pulse}
use Rattle.bus.specs.Result.{on_result}
use Rattle.bus.specs.Calls.{Called, reply_of, call}
use Rattle.bus.specs.Answer.{Answer}
use Rattle.bus.specs.Answer.{Reply}
use Rattle.widebus.specs.Selection.{selection_of}
use Rattle.widebus.specs.Pair.{Pair, ◌beside◌, Lent, lent}
use Rattle.widebus.specs.Asked.{any_short}
use Rattle.widebus.specs.Events.{is_read}
use Rattle.widebus.specs.declared.selection.Selection.{Selection}

-- What a call replies, and the states and memories of both chips that it leaves.
pub record WideCalled : Type 0 where
  pub reply : Reply
  pub lent : Pair Lent

abbrev pub wide_called : Reply → Pair Lent → WideCalled
wide_called r later = record { reply = r; lent = later }

-- A refusal leaves all that is lent as it was.
unfoldable pub refused_wide : ℕ → Pair Lent → WideCalled
refused_wide number all = wide_called (reply_of (Answer.Refused number)) all

-- What the call of one chip leaves.
abbrev pub leaves : Called → Lent
leaves c = lent c.state c.memory

-- The call of one chip on what it is lent.
abbrev pub call_on : Event → Lent → Called
call_on event one = call event one.state one.memory

-- The calls of both chips: if either refuses, neither changes, and the number is the left's where both refuse.
unfoldable pub call_both : Called → Called → Pair Lent → WideCalled
call_both l r all =
    cond (eqb l.reply.number taken)
    (cond (eqb r.reply.number taken) (wide_called l.reply (leaves l beside leaves r)) (refused_wide r.reply.number all))
    (refused_wide l.reply.number all)

-- The call of an event for the selected chips; a read with both selected is refused 14.
unfoldable pub call_selected : Selection → Event → Pair Lent → WideCalled
call_selected Selection.Left event all = let l = call_on event all.left in wide_called l.reply (leaves l beside all.right)
call_selected Selection.Right event all = let r = call_on event all.right in wide_called r.reply (all.left beside leaves r)
call_selected Selection.Both event all = cond (is_read event) (refused_wide both_selected all) (call_both (call_on event all.left) (call_on event all.right) all)

-- An event whose call asks the images for their ranges: all but a single pulse on the reset pin.
abbrev pub asks_ranges : Event → Bool
asks_ranges (command_byte b) = true
asks_ranges (data_written b) = true
asks_ranges data_read = true
asks_ranges reset_pulse = false

-- The call of an event with a selection given by its number: 1 asks all that is lent, then 2 both images, then 13 the number.
unfoldable pub wide_call : ℕ → Event → Pair Lent → WideCalled
wide_call number event all =
    cond (any_short all) (refused_wide too_short all)
    (cond (asks_ranges event && not (legal all.left.state && legal all.right.state)) (refused_wide out_of_range all)
    (on_result (selection_of number) (λ refusal. refused_wide refusal all) (λ selection. call_selected selection event all)))
