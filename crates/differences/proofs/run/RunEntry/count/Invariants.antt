-- `differences::run::RunEntry::count` meets its contract: the runs counted and those from here on are all.
use Prim.Native.Nat.{◌+◌, ◌-◌}
use mathlib.Core.Path.{◌≡◌}
use lib.ListN.{length}
use Rattle.constants.specs.Sizes.{width}
use Rattle.differences.specs.Runs.{runs_from, row_runs}
use Rattle.differences.proofs.run.RunEntry.count.Given as goal

abbrev pub invariant-loop-x : goal.invariant-loop-x
invariant-loop-x l = l.count + length (runs_from 0 l.first l.second (width - l.x) l.x) ≡ length (row_runs width 0 l.first l.second)
