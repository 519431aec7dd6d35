-- Runs from power-on with zero memory: all hold by computing.
-- Assumes nothing.
use mathlib.Core.Path.{refl}
use Rattle.codes.specs.Table.{table, command_by, command_of, operand_by, operand_of, meaning_of}
use Rattle.bus.specs.Registers.{largest_values, power_on}
use Rattle.bus.specs.Memory.{kept, onward}
use Rattle.bus.specs.Events.{command, obeyed, access, write, written, read, reset_pin}
use Rattle.bus.specs.Chip.{step}
use Rattle.bus.specs.Image.{within, awaited_codes, legal, short, asked, stored}
use Rattle.trace.specs.Records.{split_from, split}
use Rattle.trace.specs.Play.{play_events, play_record, play_from}
use Rattle.trace.specs.Kinds.{events_of, happened, compared, replay}
use Rattle.trace.specs.Run.{ran_of, run_on, run}
use Rattle.trace.specs.Samples.{RunSamples}

pub run_samples : RunSamples
unfolding power_on largest_values run run_on ran_of asked short legal within awaited_codes split split_from play_from play_record play_events events_of replay happened compared step command obeyed write written read reset_pin access kept onward command_of command_by meaning_of operand_of operand_by table Rattle.codes.specs.Table.offset_of stored
run_samples = record { answers = refl; outcomes = refl }
