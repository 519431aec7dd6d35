-- `listpack::list_entries` is safe and ends: each whole entry is within the pack, and the next begins further on.
use Prim.Native.Nat.{◌-◌, ◌≤◌}
use lib.ListN.{length}
use Rattle.listpack.proofs.list_entries.Given as goal

abbrev pub invariant-loop-count : goal.invariant-loop-count
invariant-loop-count g l = (l.at ≤ length l.pack) × (l.count ≤ l.at)

abbrev pub decreases-loop-count : goal.decreases-loop-count
decreases-loop-count g l = length l.pack - l.at
