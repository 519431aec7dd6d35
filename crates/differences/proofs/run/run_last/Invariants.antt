-- `differences::run::run_last` meets its contract: the places passed go on with the first one.
use Prim.Native.Nat.{◌+◌, ◌-◌}
use mathlib.Core.Path.{◌≡◌}
use lib.ListN.{get_or}
use Rattle.constants.specs.Sizes.{width}
use Rattle.differences.specs.Runs.{more}
use Rattle.differences.proofs.run.run_last.Given as goal

abbrev pub invariant-loop-x : goal.invariant-loop-x
invariant-loop-x l = record {
  here : l.last + 1 ≡ l.x;
  goes_on : l.from + more l.first l.second (width - (l.from + 1)) l.from ≡ l.last + more l.first l.second (width - (l.last + 1)) l.last;
  was : get_or l.first l.last 0 ≡ get_or l.first l.from 0;
  is : get_or l.second l.last 0 ≡ get_or l.second l.from 0;
}
