-- `framelisting::row::run_end` meets its contract: the places passed lead the row from the first one on.
use mathlib.Core.Path.{refl}
use native.Mathlib.Omega.{arith}
use Rattle.framelisting.proofs.AlongRow.{leading_here, leading_on, leading_end}
use Rattle.framelisting.proofs.row.run_end.Goals as goal

pub returns-then-row-x-eq0 : goal.returns-then-row-x-eq0
returns-then-row-x-eq0 c =
    omega (arith, c.loop-x.invariant, leading_here c.args.row.now c.loop-x.x c.loop-x-test.true c.if-row-x-eq0.true)

pub loop-x-preserved : goal.loop-x-preserved
loop-x-preserved c =
    omega (arith, c.loop-x.invariant, leading_on c.args.row.now c.loop-x.x c.loop-x-test.true c.if-row-x-eq0.false)

pub returns : goal.returns
returns c =
    omega (arith, c.loop-x.invariant, c.loop-x.auto.x-end c.requires, leading_end c.args.row.now c.loop-x.x c.loop-x-test.false)
