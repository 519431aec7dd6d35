-- `differences::run::put_runs` meets its contract: the runs from here on are put from here on.
use Prim.Native.Nat.{◌≤◌, ◌-◌}
use mathlib.Core.List.{map}
use Rattle.constants.specs.Sizes.{width, frame_entry_size}
use Rattle.differences.specs.Runs.{runs_from}
use Rattle.differences.specs.Found.{code_run, runs_found, run_bytes}
use Rattle.differences.specs.Laws.{run_bytes_sized}
use Rattle.differences.proofs.PutEntries.{Rest}
use Rattle.differences.proofs.AlongRow.{Open}
use Rattle.differences.proofs.run.put_runs.Given as goal

abbrev pub invariant-loop-x : goal.invariant-loop-x
invariant-loop-x l = (l.x ≤ width) × Open width l.first l.second l.x × Rest frame_entry_size run_bytes run_bytes_sized l.initial.list l.at (runs_found l.row l.first l.second) l.list l.next (map code_run (runs_from l.row l.first l.second (width - l.x) l.x))

abbrev pub decreases-loop-x : goal.decreases-loop-x
decreases-loop-x l = width - l.x
