-- `bus::stretch::commands` meets its contract: what is left of the stretch decides.
use mathlib.Core.Path.{◌≡◌}
use mathlib.Core.List.{List, map}
use Prim.Native.Nat.{ℕ}
use Rattle.bus.specs.Recorded.{recorded_command, chip_of, replay}
use Rattle.bus.specs.Stretch.{stretch}
use Rattle.bus.proofs.StretchLaws.{stretch_from}
use Rattle.bus.proofs.stretch.commands.Given as goal

abbrev pub invariant-loop-at : goal.invariant-loop-at
invariant-loop-at l = (memory : List ℕ) → stretch replay (map recorded_command l.bytes) (chip_of l.initial.registers memory) ≡ stretch_from replay recorded_command l.bytes l.at (chip_of l.registers memory)
