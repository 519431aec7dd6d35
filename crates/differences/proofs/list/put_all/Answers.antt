-- `differences::list::put_all` meets its contract: the entries of the chunks that are left are put from here on.
use Prim.Native.Nat.{ℕ, ◌+◌, ◌*◌, ◌/◌, ◌≤◌, ◌<◌}
use mathlib.Core.Path.{◌≡◌, refl, ◌∙◌, ap}
use mathlib.Core.List.{List}
use native.Mathlib.Omega.{arith}
use lib.ListN.{length}
use Rattle.std.proofs.Common.{None, rules}
use Rattle.std.specs.Simd.{first_chunks}
use Rattle.std.proofs.lemmas.Slice.Zip.{either_empty_from_Zip}
use Rattle.constants.specs.Sizes.{width}
use Rattle.differences.specs.ByRows.{by_rows}
use Rattle.differences.proofs.ByRows.{rows_within}
use Rattle.differences.proofs.Along.{along_start, along_on, along_end, along_over, same_bytes, rows_none, whole_by_chunks, rows_of_chunks}
use Rattle.differences.proofs.PutEntries.{begin, turns, done, rest_length, room_for}
use Rattle.differences.proofs.list.put_all.Goals as goal

pub loop-chunk-init : goal.loop-chunk-init
loop-chunk-init g c =
    let f = c.args.first.now in
    let s = c.args.second.now in
    let k = g.row.CHUNK / width in
    let n = g.row.BYTES / g.row.CHUNK in
    let it = c.into_iter-chunk-iterator.result in
    let each = λ (i : ℕ) (a b : List ℕ). by_rows width (λ (p : ℕ). g.E.Entry.found (i * k + p)) a b k 0 in
    let a : it.iter.a.rest.now ≡ first_chunks g.row.CHUNK n f = search rules in
    let b : it.iter.b.rest.now ≡ first_chunks g.row.CHUNK n s = search rules in
    let start = along_start g.row.CHUNK each f s it.iter.a.rest.now it.iter.b.rest.now n it.count a b (search rules) in
    let whole = whole_by_chunks width g.E.Entry.found f s g.row.CHUNK k n (g.row.BYTES / width) c.requires.chunks.1 (rows_of_chunks g.row.BYTES g.row.CHUNK k n c.requires.chunks.1 c.requires.chunks.0) in
    record { can = search rules; finite = search rules; left = search rules; put = rw (start ∙ whole) (begin _ _ _ _ _ _) }

-- the rows of a chunk are rows of the screen
chunk_within : (bytes chunk k n i : ℕ) → k * 132 ≡ chunk → n * chunk ≡ bytes → i < n → i * k * 132 + chunk ≤ bytes
chunk_within bytes chunk k n i e h l =
    let place : i * k * 132 ≡ i * chunk = rw (← e) (omega arith) in
    omega (arith, place, rows_within n i chunk l, h)

pub put_rows-next-requires : goal.put_rows-next-requires
put_rows-next-requires g c =
    let k = g.row.CHUNK / width in
    let n = g.row.BYTES / g.row.CHUNK in
    let steps = c.in-Some.ensures.steps in
    let it = c.loop-chunk.chunk-iterator in
    let next = c.next.new.self in
    let each = λ (i : ℕ) (a b : List ℕ). by_rows width (λ (p : ℕ). g.E.Entry.found (i * k + p)) a b k 0 in
    let on = along_on each it.iter.a.rest.now it.iter.b.rest.now next.iter.a.rest.now next.iter.b.rest.now c.in-Some.was.now c.in-Some.is'.now it.count steps.0.0 steps.0.1 in
    let below : it.count < n = omega (arith, ap length steps.0.0, c.loop-chunk.invariant.left) in
    rw steps.1 (
      omega (arith, c.requires.chunks.3, c.requires.chunks.4),
      (
        (c.requires.chunks.1, omega (arith, chunk_within g.row.BYTES g.row.CHUNK k n it.count c.requires.chunks.1 c.requires.chunks.0 below, c.requires.chunks.4)),
        room_for _ _ _ _ _ (rw on at c.loop-chunk.invariant.put) c.requires.room,
      ),
    )

pub loop-chunk-preserved-then-ne : goal.loop-chunk-preserved-then-ne
loop-chunk-preserved-then-ne g c =
    let k = g.row.CHUNK / width in
    let steps = c.in-Some.ensures.steps in
    let it = c.loop-chunk.chunk-iterator in
    let next = c.next.new.self in
    let each = λ (i : ℕ) (a b : List ℕ). by_rows width (λ (p : ℕ). g.E.Entry.found (i * k + p)) a b k 0 in
    let on = along_on each it.iter.a.rest.now it.iter.b.rest.now next.iter.a.rest.now next.iter.b.rest.now c.in-Some.was.now c.in-Some.is'.now it.count steps.0.0 steps.0.1 in
    record { can = search rules; finite = search rules; left = omega (arith, steps.2, ap length steps.0.0, c.loop-chunk.invariant.left); put = rw steps.2 (turns _ _ _ (rw on at c.loop-chunk.invariant.put) (rw steps.1 at c.put_rows-next.ensures)) }

pub loop-chunk-preserved : goal.loop-chunk-preserved
loop-chunk-preserved g c =
    let k = g.row.CHUNK / width in
    let steps = c.in-Some.ensures.steps in
    let it = c.loop-chunk.chunk-iterator in
    let next = c.next.new.self in
    let each = λ (i : ℕ) (a b : List ℕ). by_rows width (λ (p : ℕ). g.E.Entry.found (i * k + p)) a b k 0 in
    let same = same_bytes _ _ _ c.ne.ensures c.if-ne.false in
    let over = along_over each it.iter.a.rest.now it.iter.b.rest.now next.iter.a.rest.now next.iter.b.rest.now c.in-Some.was.now c.in-Some.is'.now it.count (λ i a. rows_none width (λ (p : ℕ). g.E.Entry.found (i * k + p)) (λ p. g.met.E.Entry.none (i * k + p)) a k 0) steps.0.0 steps.0.1 same in
    record { can = search rules; finite = search rules; left = omega (arith, steps.2, ap length steps.0.0, c.loop-chunk.invariant.left); put = rw (steps.2, ← over) c.loop-chunk.invariant.put }

pub returns : goal.returns
returns g c =
    let k = g.row.CHUNK / width in
    let it = c.loop-chunk.chunk-iterator in
    let each = λ (i : ℕ) (a b : List ℕ). by_rows width (λ (p : ℕ). g.E.Entry.found (i * k + p)) a b k 0 in
    let end = along_end each it.iter.a.rest.now it.iter.b.rest.now it.count (either_empty_from_Zip it.iter c.next.new.self.iter None refl c.in-None.ensures.steps.0) in
    done _ _ _ (rw end at c.loop-chunk.invariant.put)
