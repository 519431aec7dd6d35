-- Runs of the wide terminal from power-on: all hold by computing.
-- Assumes nothing.
use mathlib.Core.Path.{refl}
use Rattle.codes.specs.Table.{table, command_by, command_of, operand_by, operand_of, meaning_of}
use Rattle.bus.specs.Registers.{largest_values, power_on}
use Rattle.bus.specs.Memory.{kept, onward}
use Rattle.bus.specs.Events.{command, obeyed, access, write, written, read, reset_pin}
use Rattle.bus.specs.Chip.{step}
use Rattle.bus.specs.Image.{within, awaited_codes, legal, short, asked_state, stored}
use Rattle.trace.specs.Records.{split_from, split}
use Rattle.trace.specs.Play.{play_events, play_record, play_from}
use Rattle.trace.specs.Kinds.{events_of, happened, compared, replay}
use Rattle.widebus.specs.Selection.{selection_of}
use Rattle.widebus.specs.Asked.{both_found, asked_both}
use Rattle.widebus.specs.Events.{to_selected, replay_on}
use Rattle.widetrace.specs.Terminal.{selected_by, wide_events_of, wide_step}
use Rattle.widetrace.specs.WideRun.{wide_ran_of, wide_run_on, wide_run}
use Rattle.widetrace.specs.Samples.{WideRunSamples}

pub wide_run_samples : WideRunSamples
unfolding power_on largest_values wide_run wide_run_on wide_ran_of asked_both both_found asked_state short legal within awaited_codes split split_from play_from play_record play_events events_of wide_events_of selected_by selection_of wide_step replay_on to_selected replay happened compared step command obeyed write written read reset_pin access kept onward command_of command_by meaning_of operand_of operand_by table Rattle.codes.specs.Table.offset_of stored
wide_run_samples = record { answers = refl; writes = refl; pin = refl; pin_keeps = refl; neither = refl; neither_tests = refl; neither_stores = refl }
