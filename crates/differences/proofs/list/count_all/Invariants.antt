-- `differences::list::count_all` meets its contract: the entries counted and those of the rows that are left are all.
use Prim.Native.Nat.{◌+◌, ◌/◌}
use mathlib.Core.Path.{◌≡◌}
use lib.ListN.{length}
use Rattle.constants.specs.Sizes.{width}
use Rattle.differences.specs.ByRows.{by_rows}
use Rattle.differences.proofs.Along.{along}
use Rattle.differences.proofs.list.count_all.Given as goal

abbrev pub invariant-loop-row : goal.invariant-loop-row
invariant-loop-row g l = record {
  can : (goal.iterator-loop-row g).can_next l.row-iterator;
  finite : (goal.iterator-loop-row g).is_finite l.row-iterator;
  left : l.row-iterator.count + length l.row-iterator.iter.a.rest.now ≡ g.row.BYTES / width;
  counted : l.count + length (along g.E.Entry.found l.row-iterator.iter.a.rest.now l.row-iterator.iter.b.rest.now l.row-iterator.count) ≡ length (by_rows width g.E.Entry.found l.fn.first l.fn.second (g.row.BYTES / width) 0);
}
