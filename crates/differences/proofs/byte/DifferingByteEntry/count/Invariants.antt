-- `differences::byte::DifferingByteEntry::count` meets its contract: the bytes counted and those from here on are all.
use Prim.Native.Nat.{◌+◌, ◌-◌}
use mathlib.Core.Path.{◌≡◌}
use lib.ListN.{length}
use Rattle.constants.specs.Sizes.{width}
use Rattle.differences.specs.Bytes.{bytes_from, page_bytes}
use Rattle.differences.proofs.byte.DifferingByteEntry.count.Given as goal

abbrev pub invariant-loop-column : goal.invariant-loop-column
invariant-loop-column l = l.count + length (bytes_from l.row l.first l.second (width - l.column) l.column) ≡ length (page_bytes l.row l.first l.second)
