-- `differences::run::RunEntry::count` meets its contract: the runs counted and those from here on are all.
use mathlib.Core.Path.{◌∙◌, sym}
use native.Mathlib.Omega.{arith}
use lib.ListN.{length-map}
use lib.Pointwise.{bytes_decides}
use Rattle.constants.specs.Sizes.{width}
use Rattle.differences.specs.Laws.{runs_few, runs_found_none}
use Rattle.differences.proofs.AlongRow.{runs_end}
use Rattle.differences.proofs.Counting.{byte_of, runs_first, runs_next, any_row}
use Rattle.differences.proofs.run.RunEntry.count.Goals as goal

pub returns-then-eq : goal.returns-then-eq
returns-then-eq c =
    let a = c.args in
    let same = (bytes_decides a.first.now a.second.now).0 (sym c.eq.ensures ∙ c.if-eq.true) in
    rw (same, runs_found_none a._row a.second.now)

pub loop-x-init : goal.loop-x-init
loop-x-init c = runs_first width _ _ _ (omega arith) (c.from-count.ensures ∙ byte_of _)

pub overflow_add-count : goal.overflow_add-count
overflow_add-count c =
    let a = c.args in
    let next = runs_next width a.first.now a.second.now c.loop-x.x c.loop-x.count c.from-count-in-loop-x.result _ (omega arith) (omega arith) c.loop-x.invariant (c.from-count-in-loop-x.ensures ∙ byte_of _ ∙ rw c.same_way-goes_on.ensures) in
    omega (arith, next, runs_few 0 a.first.now a.second.now width 0)

pub loop-x-preserved : goal.loop-x-preserved
loop-x-preserved c =
    let a = c.args in
    runs_next width a.first.now a.second.now c.loop-x.x c.loop-x.count c.from-count-in-loop-x.result _ (omega arith) (omega arith) c.loop-x.invariant (c.from-count-in-loop-x.ensures ∙ byte_of _ ∙ rw c.same_way-goes_on.ensures)

pub returns : goal.returns
returns c =
    let a = c.args in
    let none = rw (runs_end width 0 a.first.now a.second.now c.loop-x.x (omega arith)) at c.loop-x.invariant in
    rw (length-map, any_row a._row a.first.now a.second.now width 0) (omega (arith, none))
