-- `widetrace::side::play_side` meets its contract: what is left of the trace before the limit decides, and then how the chip heeds the record that stands there.
use mathlib.Core.Path.{◌≡◌}
use Prim.Native.Nat.{◌≤◌, ◌-◌}
use lib.ListN.{length}
use Rattle.trace.specs.Records.{split}
use Rattle.trace.specs.Play.{play, play_from}
use Rattle.trace.specs.Kinds.{chip_of}
use Rattle.trace.proofs.SplitLaws.{rest}
use Rattle.widebus.specs.declared.selection.Selection.{Selection}
use Rattle.widetrace.specs.Sides.{one_side, the_side, up_to}
use Rattle.widetrace.proofs.side.play_side.Given as goal

abbrev pub invariant-loop-at : goal.invariant-loop-at
invariant-loop-at l =
    (l.at ≤ length l.trace) × (l.count ≤ l.at) × (length l.memory ≡ length l.initial.memory)
    × (play (the_side l.side) (up_to l.limit (split l.trace)) (one_side (chip_of l.initial.registers l.initial.memory) Selection.Both) ≡ play_from (the_side l.side) (up_to l.limit (rest l.trace l.at)) l.count (one_side (chip_of l.registers l.memory) l.selection))

abbrev pub decreases-loop-at : goal.decreases-loop-at
decreases-loop-at l = length l.trace - l.at
