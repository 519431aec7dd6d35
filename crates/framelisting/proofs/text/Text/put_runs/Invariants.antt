-- `framelisting::text::Text::put_runs` meets its contract: the text of the runs from here on is put from here on.
use Prim.Native.Nat.{◌+◌, ◌≤◌, ◌-◌}
use lib.ListN.{length, drop}
use Rattle.framelisting.specs.Runs.{runs, runs_from}
use Rattle.framelisting.specs.Text.{runs_text}
use Rattle.framelisting.proofs.PutPieces.{Rest}
use Rattle.framelisting.proofs.text.Text.put_runs.Given as goal

abbrev pub invariant-loop-x : goal.invariant-loop-x
invariant-loop-x l = (l.x ≤ length l.row + 1) × Rest l.initial.self (runs_text (runs l.row)) l.self (runs_text (runs_from l.x 0 (drop l.x l.row)))

abbrev pub decreases-loop-x : goal.decreases-loop-x
decreases-loop-x l = length l.row + 1 - l.x
