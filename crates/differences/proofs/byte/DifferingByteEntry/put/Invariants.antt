-- `differences::byte::DifferingByteEntry::put` meets its contract: the differing bytes from here on are put from here on.
use Prim.Native.Nat.{◌-◌}
use mathlib.Core.List.{map}
use Rattle.constants.specs.Sizes.{width, memory_entry_size}
use Rattle.differences.specs.Bytes.{bytes_from}
use Rattle.differences.specs.Found.{code_byte, bytes_found, byte_bytes}
use Rattle.differences.specs.Laws.{byte_bytes_sized}
use Rattle.differences.proofs.PutEntries.{Rest}
use Rattle.differences.proofs.byte.DifferingByteEntry.put.Given as goal

abbrev pub invariant-loop-column : goal.invariant-loop-column
invariant-loop-column l = Rest memory_entry_size byte_bytes byte_bytes_sized l.initial.list l.at (bytes_found l.row l.first l.second) l.list l.next (map code_byte (bytes_from l.row l.first l.second (width - l.column) l.column))
