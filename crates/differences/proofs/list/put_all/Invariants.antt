-- `differences::list::put_all` meets its contract: the entries of the chunks that are left are put from here on.
use Prim.Native.Nat.{ℕ, ◌+◌, ◌*◌, ◌/◌}
use mathlib.Core.Path.{◌≡◌}
use mathlib.Core.List.{List}
use lib.ListN.{length}
use Rattle.constants.specs.Sizes.{width}
use Rattle.differences.specs.ByRows.{by_rows}
use Rattle.differences.proofs.Along.{along}
use Rattle.differences.proofs.PutEntries.{Rest}
use Rattle.differences.proofs.list.put_all.Given as goal

abbrev pub invariant-loop-chunk : goal.invariant-loop-chunk
invariant-loop-chunk g l =
    let k = g.row.CHUNK / width in
    let each = λ (c : ℕ) (a b : List ℕ). by_rows width (λ (p : ℕ). g.E.Entry.found (c * k + p)) a b k 0 in
    record {
      can : (goal.iterator-loop-chunk g).can_next l.chunk-iterator;
      finite : (goal.iterator-loop-chunk g).is_finite l.chunk-iterator;
      left : l.chunk-iterator.count + length l.chunk-iterator.iter.a.rest.now ≡ g.row.BYTES / g.row.CHUNK;
      put : Rest g.E.Entry.SIZE g.E.Entry.bytes g.met.E.Entry.sized l.initial.list 0 (by_rows width g.E.Entry.found l.fn.first l.fn.second (g.row.BYTES / width) 0) l.list l.next (along each l.chunk-iterator.iter.a.rest.now l.chunk-iterator.iter.b.rest.now l.chunk-iterator.count);
    }
