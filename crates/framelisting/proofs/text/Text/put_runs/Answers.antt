-- `framelisting::text::Text::put_runs` meets its contract: the text of the runs from here on is put from here on.
use Prim.Native.Nat.{◌-◌}
use native.Mathlib.Omega.{arith}
use Rattle.framelisting.specs.Runs.{runs}
use Rattle.framelisting.specs.Text.{run_text, runs_text}
use Rattle.framelisting.proofs.PutPieces.{begin, turn, done, room, room_left}
use Rattle.framelisting.proofs.AlongRow.{runs_on, runs_end, run_text_lem, run_text_on, run_within}
use Rattle.framelisting.proofs.text.Text.put_runs.Goals as goal

pub loop-x-init : goal.loop-x-init
unfolding runs
loop-x-init c = (omega arith, begin _ _)

pub loop-x-preserved-then-row-x-eq0 : goal.loop-x-preserved-then-row-x-eq0
loop-x-preserved-then-row-x-eq0 c =
    (omega arith, rw (runs_on c.args.row.now c.loop-x.x c.loop-x-test.true c.if-row-x-eq0.true) at c.loop-x.invariant.1)

pub put_run-requires : goal.put_run-requires
put_run-requires c =
    room c.loop-x.self.at (run_text (record { first = c.loop-x.x; last = c.run_end-end.result - 1 })) _ (rw (run_text_lem c.args.row.now c.loop-x.x c.run_end-end.result c.loop-x-test.true c.if-row-x-eq0.false c.run_end-end.ensures) at (room_left c.loop-x.invariant.1 c.requires.countable))

pub overflow_add-x-else-row-x-eq0-2 : goal.overflow_add-x-else-row-x-eq0-2
overflow_add-x-else-row-x-eq0-2 c =
    omega (arith, c.requires.row_len_bound, run_within c.args.row.now c.loop-x.x c.run_end-end.result c.loop-x-test.true c.run_end-end.ensures)

pub loop-x-preserved : goal.loop-x-preserved
loop-x-preserved c =
    let row = c.args.row.now in
    let inside = c.loop-x-test.true in (
      omega (arith, run_within row c.loop-x.x c.run_end-end.result inside c.run_end-end.ensures),
      turn (rw (run_text_on row c.loop-x.x c.run_end-end.result inside c.if-row-x-eq0.false c.run_end-end.ensures) at c.loop-x.invariant.1) c.put_run.ensures,
    )

pub returns : goal.returns
unfolding runs_text
returns c = done (rw (runs_end c.args.row.now c.loop-x.x c.loop-x-test.false) at c.loop-x.invariant.1)
