-- The calls worked out: all hold by computing.
-- Assumes nothing.
use mathlib.Core.Path.{refl}
use Rattle.codes.specs.Table.{table, command_by, command_of, operand_by, operand_of, meaning_of}
use Rattle.bus.specs.Registers.{largest_values, power_on}
use Rattle.bus.specs.Memory.{kept, onward}
use Rattle.bus.specs.Events.{number_of, byte_of, dummy_of, command, obeyed, access, write, written, read, reset_pin}
use Rattle.bus.specs.Chip.{step}
use Rattle.bus.specs.Calls.{reply_of, refused, state_after, concluded, asked_before, call_on, call}
use Rattle.bus.specs.Image.{within, awaited_codes, legal, short, asked, stored}
use Rattle.widebus.specs.Selection.{selection_of}
use Rattle.widebus.specs.WideCalls.{refused_wide, call_both, call_selected, wide_call}
use Rattle.widebus.specs.Samples.{CallSamples}

pub call_samples : CallSamples
unfolding power_on largest_values wide_call call_selected call_both refused_wide selection_of call call_on asked_before concluded state_after refused reply_of number_of byte_of dummy_of short legal within awaited_codes asked step command obeyed write written read reset_pin access kept onward command_of command_by meaning_of operand_of operand_by table Rattle.codes.specs.Table.offset_of stored
call_samples = record { answers = refl; pin = refl; dummy_read = refl }
