-- `bus::pieces::write_round` meets its contract: what is left of the stretch decides, piece by piece.
use mathlib.Core.Path.{◌≡◌}
use mathlib.Core.List.{map}
use Prim.Native.Nat.{ℕ, ◌≤◌}
use lib.ListN.{length, drop}
use Rattle.constants.specs.Numbers.{taken}
use Rattle.bus.specs.Events.{access}
use Rattle.bus.specs.Recorded.{recorded_write, chip_of, replay}
use Rattle.bus.specs.Stretch.{stretch}
use Rattle.bus.proofs.StretchLaws.{stretch_from}
use Rattle.bus.proofs.pieces.write_round.Given as goal

abbrev pub invariant-loop-left : goal.invariant-loop-left
invariant-loop-left l = (at : ℕ) × (at ≤ length l.bytes) × (l.left ≡ drop at l.bytes) × (length l.memory ≡ length l.initial.memory) × (access l.registers (length l.memory) ≡ taken) × (stretch replay (map recorded_write l.bytes) (chip_of l.initial.registers l.initial.memory) ≡ stretch_from replay recorded_write l.bytes at (chip_of l.registers l.memory))

abbrev pub decreases-loop-left : goal.decreases-loop-left
decreases-loop-left l = length l.left
