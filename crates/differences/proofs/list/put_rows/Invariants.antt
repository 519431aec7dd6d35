-- `differences::list::put_rows` meets its contract: the entries of the rows that are left are put from here on.
use Prim.Native.Nat.{ℕ, ◌+◌, ◌/◌}
use mathlib.Core.Path.{◌≡◌}
use lib.ListN.{length}
use Rattle.constants.specs.Sizes.{width}
use Rattle.differences.specs.ByRows.{by_rows}
use Rattle.differences.proofs.Along.{along}
use Rattle.differences.proofs.PutEntries.{Rest}
use Rattle.differences.proofs.list.put_rows.Given as goal

abbrev pub invariant-loop-row : goal.invariant-loop-row
invariant-loop-row g l = record {
  can : (goal.iterator-loop-row g).can_next l.row-iterator;
  finite : (goal.iterator-loop-row g).is_finite l.row-iterator;
  left : l.row-iterator.count + length l.row-iterator.iter.a.rest.now ≡ g.row.CHUNK / width;
  put : Rest g.E.Entry.SIZE g.E.Entry.bytes g.met.E.Entry.sized l.initial.list l.at (by_rows width (λ (p : ℕ). g.E.Entry.found (l.from + p)) l.fn.first l.fn.second (g.row.CHUNK / width) 0) l.list l.next (along (λ (p : ℕ). g.E.Entry.found (l.from + p)) l.row-iterator.iter.a.rest.now l.row-iterator.iter.b.rest.now l.row-iterator.count);
}
