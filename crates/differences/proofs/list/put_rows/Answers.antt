-- `differences::list::put_rows` meets its contract: the entries of the rows that are left are put from here on.
use Prim.Native.Nat.{ℕ, ◌+◌, ◌/◌}
use mathlib.Core.Path.{◌≡◌, refl, ap}
use native.Mathlib.Omega.{arith}
use lib.ListN.{length}
use Rattle.std.proofs.Common.{None, rules}
use Rattle.std.specs.Simd.{first_chunks}
use Rattle.std.proofs.lemmas.Slice.Zip.{either_empty_from_Zip}
use Rattle.constants.specs.Sizes.{width}
use Rattle.differences.proofs.Along.{along_start, along_on, along_end}
use Rattle.differences.proofs.PutEntries.{begin, turns, done, rest_length, room_for}
use Rattle.differences.proofs.list.put_rows.Goals as goal

pub loop-row-init : goal.loop-row-init
loop-row-init g c =
    let f = c.args.first.now in
    let it = c.into_iter-row-iterator.result in
    let n = g.row.CHUNK / width in
    let a : it.iter.a.rest.now ≡ first_chunks width n f = search rules in
    let b : it.iter.b.rest.now ≡ first_chunks width n c.args.second.now = search rules in
    let start = along_start width (λ (p : ℕ). g.E.Entry.found (c.args.from + p)) f c.args.second.now it.iter.a.rest.now it.iter.b.rest.now n it.count a b (search rules) in
    record { can = search rules; finite = search rules; left = search rules; put = rw start (begin _ _ _ _ _ _) }

pub put-next-requires : goal.put-next-requires
put-next-requires g c =
    let steps = c.in-Some.ensures.steps in
    let it = c.loop-row.row-iterator in
    let next = c.next.new.self in
    let on = along_on (λ (p : ℕ). g.E.Entry.found (c.args.from + p)) it.iter.a.rest.now it.iter.b.rest.now next.iter.a.rest.now next.iter.b.rest.now c.in-Some.was.now c.in-Some.is'.now it.count steps.0.0 steps.0.1 in
    rw steps.1 (room_for _ _ _ _ _ (rw on at c.loop-row.invariant.put) c.requires.room)

pub loop-row-preserved : goal.loop-row-preserved
loop-row-preserved g c =
    let steps = c.in-Some.ensures.steps in
    let it = c.loop-row.row-iterator in
    let next = c.next.new.self in
    let on = along_on (λ (p : ℕ). g.E.Entry.found (c.args.from + p)) it.iter.a.rest.now it.iter.b.rest.now next.iter.a.rest.now next.iter.b.rest.now c.in-Some.was.now c.in-Some.is'.now it.count steps.0.0 steps.0.1 in
    record { can = search rules; finite = search rules; left = omega (arith, steps.2, ap length steps.0.0, c.loop-row.invariant.left); put = rw steps.2 (turns _ _ _ (rw on at c.loop-row.invariant.put) (rw steps.1 at c.put-next.ensures)) }

pub returns : goal.returns
returns g c =
    let it = c.loop-row.row-iterator in
    let end = along_end (λ (p : ℕ). g.E.Entry.found (c.args.from + p)) it.iter.a.rest.now it.iter.b.rest.now it.count (either_empty_from_Zip it.iter c.next.new.self.iter None refl c.in-None.ensures.steps.0) in
    done _ _ _ (rw end at c.loop-row.invariant.put)
