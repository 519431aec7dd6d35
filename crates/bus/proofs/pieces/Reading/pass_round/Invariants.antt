-- `bus::pieces::Reading::pass_round` meets its contract: what is left of the stretch decides, piece by piece.
use mathlib.Core.Path.{◌≡◌}
use mathlib.Core.Logic.{◌≢◌}
use mathlib.Core.List.{map}
use Prim.Native.Nat.{ℕ, ◌≤◌}
use lib.ListN.{length, drop}
use Rattle.constants.specs.Numbers.{taken}
use Rattle.bus.specs.Events.{access}
use Rattle.bus.specs.Recorded.{read_as, chip_of, replay}
use Rattle.bus.specs.Stretch.{stretch}
use Rattle.bus.specs.Reads.{reads_from}
use Rattle.bus.proofs.pieces.Reading.pass_round.Given as goal

abbrev pub invariant-loop-memory : goal.invariant-loop-memory
invariant-loop-memory l = (at : ℕ) × (at ≤ length l.bytes) × (l.left ≡ drop at l.bytes) × (access l.registers (length l.memory) ≡ taken) × (l.registers.fresh ≢ 1) × (l.registers.modify ≢ 1) × (stretch replay (map read_as l.bytes) (chip_of l.self.registers l.memory) ≡ reads_from at l.bytes (chip_of l.registers l.memory))

abbrev pub decreases-loop-memory : goal.decreases-loop-memory
decreases-loop-memory l = length l.left
