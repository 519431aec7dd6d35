-- `differences::list::count_all` meets its contract: the entries counted and those of the rows that are left are all.
use Prim.Native.Nat.{◌/◌}
use mathlib.Core.Path.{◌≡◌, refl, ◌∙◌, ap}
use native.Mathlib.Nat.{zero-add}
use native.Mathlib.Omega.{arith}
use lib.ListN.{length}
use Rattle.std.proofs.Common.{None, rules}
use Rattle.std.specs.Simd.{first_chunks}
use Rattle.std.proofs.lemmas.Slice.Zip.{either_empty_from_Zip}
use Rattle.constants.specs.Sizes.{width}
use Rattle.differences.proofs.Entries.{rows_few}
use Rattle.differences.proofs.Along.{along_start, along_end, count_on}
use Rattle.differences.proofs.list.count_all.Goals as goal

pub loop-row-init : goal.loop-row-init
loop-row-init g c =
    let f = c.args.first.now in
    let it = c.into_iter-row-iterator.result in
    let n = g.row.BYTES / width in
    let a : it.iter.a.rest.now ≡ first_chunks width n f = search rules in
    let b : it.iter.b.rest.now ≡ first_chunks width n c.args.second.now = search rules in
    let start = along_start width g.E.Entry.found f c.args.second.now it.iter.a.rest.now it.iter.b.rest.now n it.count a b (search rules) in
    record { can = search rules; finite = search rules; left = search rules; counted = zero-add _ ∙ ap length start }

pub overflow_add-count : goal.overflow_add-count
overflow_add-count g c =
    let steps = c.in-Some.ensures.steps in
    let it = c.loop-row.row-iterator in
    let next = c.next.new.self in
    let more = count_on g.E.Entry.found it.iter.a.rest.now it.iter.b.rest.now next.iter.a.rest.now next.iter.b.rest.now c.in-Some.was.now c.in-Some.is'.now it.count c.loop-row.count c.from-count.result _ steps.0.0 steps.0.1 c.loop-row.invariant.counted (c.from-count.ensures ∙ c.count.ensures ∙ rw steps.1) in
    omega (arith, more, rows_few width width g.E.Entry.found g.met.E.Entry.few c.args.first.now c.args.second.now (g.row.BYTES / width) 0)

pub loop-row-preserved : goal.loop-row-preserved
loop-row-preserved g c =
    let steps = c.in-Some.ensures.steps in
    let it = c.loop-row.row-iterator in
    let next = c.next.new.self in
    let more = count_on g.E.Entry.found it.iter.a.rest.now it.iter.b.rest.now next.iter.a.rest.now next.iter.b.rest.now c.in-Some.was.now c.in-Some.is'.now it.count c.loop-row.count c.from-count.result _ steps.0.0 steps.0.1 c.loop-row.invariant.counted (c.from-count.ensures ∙ c.count.ensures ∙ rw steps.1) in
    record { can = search rules; finite = search rules; left = omega (arith, steps.2, ap length steps.0.0, c.loop-row.invariant.left); counted = rw steps.2 more }

pub returns : goal.returns
returns g c =
    let it = c.loop-row.row-iterator in
    let end = along_end g.E.Entry.found it.iter.a.rest.now it.iter.b.rest.now it.count (either_empty_from_Zip it.iter c.next.new.self.iter None refl c.in-None.ensures.steps.0) in
    let counted = rw end at c.loop-row.invariant.counted in
    omega (arith, counted)
