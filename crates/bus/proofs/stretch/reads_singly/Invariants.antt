-- `bus::stretch::reads_singly` meets its contract: what is left of the stretch decides.
use mathlib.Core.Path.{◌≡◌}
use mathlib.Core.List.{map}
use Rattle.bus.specs.Recorded.{read_as, chip_of, replay}
use Rattle.bus.specs.Stretch.{stretch}
use Rattle.bus.proofs.StretchLaws.{stretch_from}
use Rattle.bus.proofs.stretch.reads_singly.Given as goal

abbrev pub invariant-loop-at : goal.invariant-loop-at
invariant-loop-at l = stretch replay (map read_as l.bytes) (chip_of l.initial.registers l.memory) ≡ stretch_from replay read_as l.bytes l.at (chip_of l.registers l.memory)
