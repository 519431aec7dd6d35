-- `framelisting::row::run_end` meets its contract: the places passed lead the row from the first one on.
use Prim.Native.Nat.{◌+◌}
use mathlib.Core.Path.{◌≡◌}
use lib.ListN.{drop}
use Rattle.framelisting.specs.Runs.{leading}
use Rattle.framelisting.proofs.row.run_end.Given as goal

abbrev pub invariant-loop-x : goal.invariant-loop-x
invariant-loop-x l = l.from + leading (drop l.from l.row) ≡ l.x + leading (drop l.x l.row)
