-- `differences::run::put_runs` meets its contract: the runs from here on are put from here on.
use native.Mathlib.Omega.{arith}
use Rattle.constants.specs.Sizes.{width}
use Rattle.differences.proofs.PutEntries.{begin, turn, done, rest_length, room_for_one}
use Rattle.differences.proofs.AlongRow.{open_first, open_same, open_after, run_within, runs_on, runs_here, runs_end}
use Rattle.differences.proofs.run.put_runs.Goals as goal
use Rattle.differences.proofs.run.put_runs.Goals.{then-first-x, else-first-x}

pub loop-x-init : goal.loop-x-init
loop-x-init c = (omega arith, open_first width _ _, begin _ _ _ _ _ _)

pub overflow_cast-run-then-first-x : goal.overflow_cast-run-then-first-x
overflow_cast-run-then-first-x c =
    let a = c.args in
    omega (arith, run_within width a.first.now a.second.now c.loop-x.x c.run_last-last.result (omega arith) c.run_last-last.ensures)

pub put_at-requires : goal.put_at-requires
put_at-requires c =
    let a = c.args in
    room_for_one _ _ _ (rw (runs_here width a.row a.first.now a.second.now c.loop-x.x c.run_last-last.result (omega arith) c.if-first-x.true c.loop-x.invariant.1 c.run_last-last.ensures) at c.loop-x.invariant.2) c.requires

pub overflow_add-x : goal.overflow_add-x
overflow_add-x c =
    let a = c.args in
    elim c.if-first-x.branch [
      | then-first-x w ↦ rw w.x-is (omega (arith, run_within width a.first.now a.second.now c.loop-x.x w.run_last-last.result (omega arith) w.run_last-last.ensures))
      | else-first-x w ↦ rw w.x-is (omega arith)
    ]

pub loop-x-preserved : goal.loop-x-preserved
loop-x-preserved c =
    let a = c.args in
    let f = a.first.now in
    let g = a.second.now in
    let x = c.loop-x.x in
    let inside = c.loop-x-test.true in
    elim c.if-first-x.branch [
      | then-first-x w ↦
          let last = w.run_last-last.result in
          let here = rw (runs_here width a.row f g x last inside w.if-first-x.true c.loop-x.invariant.1 w.run_last-last.ensures) at c.loop-x.invariant.2 in
          rw (w.list-is, w.next-is, w.x-is) (omega (arith, run_within width f g x last inside w.run_last-last.ensures), open_after width f g x last inside w.run_last-last.ensures, turn _ _ _ here w.put_at.ensures)
      | else-first-x w ↦
          rw (w.list-is, w.next-is, w.x-is) (omega arith, open_same width _ _ x w.if-first-x.false, rw (runs_on width a.row f g x inside w.if-first-x.false) at c.loop-x.invariant.2)
    ]

pub returns : goal.returns
returns c =
    let a = c.args in
    done _ _ _ (rw (runs_end width a.row a.first.now a.second.now c.loop-x.x c.loop-x-test.false) at c.loop-x.invariant.2)
