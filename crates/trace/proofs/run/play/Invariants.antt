-- `trace::run::play` meets its contract: what is left of the trace decides.
use mathlib.Core.Path.{◌≡◌}
use Prim.Native.Nat.{◌≤◌, ◌-◌}
use lib.ListN.{length}
use Rattle.trace.specs.Records.{split}
use Rattle.trace.specs.Play.{play, play_from}
use Rattle.trace.specs.Kinds.{the_chip, chip_of}
use Rattle.trace.proofs.SplitLaws.{rest}
use Rattle.trace.proofs.run.play.Given as goal

abbrev pub invariant-loop-header : goal.invariant-loop-header
invariant-loop-header l = (l.reader.trace.now ≡ l.trace) × (l.reader.at ≤ length l.trace) × (l.count ≤ l.reader.at) × (length l.memory ≡ length l.initial.memory) × (play the_chip (split l.trace) (chip_of l.initial.registers l.initial.memory) ≡ play_from the_chip (rest l.trace l.reader.at) l.count (chip_of l.registers l.memory))

abbrev pub decreases-loop-header : goal.decreases-loop-header
decreases-loop-header l = length l.trace - l.reader.at
