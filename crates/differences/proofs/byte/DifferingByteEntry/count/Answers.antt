-- `differences::byte::DifferingByteEntry::count` meets its contract: the bytes counted and those from here on are all.
use mathlib.Core.Path.{◌∙◌}
use native.Mathlib.Omega.{arith}
use lib.ListN.{length-map}
use Rattle.constants.specs.Sizes.{width}
use Rattle.differences.specs.Laws.{bytes_few}
use Rattle.differences.proofs.AlongPage.{bytes_end}
use Rattle.differences.proofs.Counting.{byte_of, bytes_next}
use Rattle.differences.proofs.byte.DifferingByteEntry.count.Goals as goal

pub overflow_add-count : goal.overflow_add-count
overflow_add-count c =
    let a = c.args in
    let f = c.from-count.ensures in
    let next = bytes_next width a.row a.first.now a.second.now c.loop-column.column c.loop-column.count c.from-count.result _ (omega arith) c.loop-column.invariant (c.from-count.ensures ∙ byte_of _ ∙ rw (c.kept.ensures, c.kept-in-loop-column.ensures)) in
    omega (arith, next, bytes_few a.row a.first.now a.second.now width 0)

pub loop-column-preserved : goal.loop-column-preserved
loop-column-preserved c =
    let a = c.args in
    bytes_next width a.row a.first.now a.second.now c.loop-column.column c.loop-column.count c.from-count.result _ (omega arith) c.loop-column.invariant (c.from-count.ensures ∙ byte_of _ ∙ rw (c.kept.ensures, c.kept-in-loop-column.ensures))

pub returns : goal.returns
returns c =
    let a = c.args in
    let none = rw (bytes_end width a.row a.first.now a.second.now c.loop-column.column (omega arith)) at c.loop-column.invariant in
    rw length-map (omega (arith, none))
