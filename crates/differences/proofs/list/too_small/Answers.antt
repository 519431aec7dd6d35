-- `differences::list::too_small` meets its contract: a buffer that holds every list is never too small.
use Prim.Native.Nat.{◌*◌, ◌/◌, ◌≤◌}
use mathlib.Core.Path.{sym}
use native.Mathlib.Omega.{arith}
use borrow.Author.Tests.{le-ltb}
use lib.ListN.{length}
use Rattle.std.proofs.Math.Nat.{mul-le-mul_left}
use Rattle.constants.specs.Sizes.{width}
use Rattle.differences.specs.ByRows.{by_rows}
use Rattle.differences.proofs.Entries.{rows_few}
use Rattle.differences.proofs.list.too_small.Goals as goal

pub returns-then-bytes : goal.returns-then-bytes
returns-then-bytes g c =
    let a = c.args in
    let found = length (by_rows width g.E.Entry.found a.first.now a.second.now (g.row.BYTES / width) 0) in
    let few : found ≤ g.row.BYTES = omega (arith, rows_few width width g.E.Entry.found g.met.E.Entry.few a.first.now a.second.now (g.row.BYTES / width) 0, c.requires.rows.0) in
    sym (le-ltb a.bytes (found * g.E.Entry.SIZE) (omega (arith, mul-le-mul_left g.E.Entry.SIZE few, c.requires.longest, c.if-bytes.true)))

pub overflow_mul-result : goal.overflow_mul-result
overflow_mul-result g c =
    let a = c.args in
    let few : c.count_all.result ≤ 8580 = omega (arith, c.count_all.ensures, rows_few width width g.E.Entry.found g.met.E.Entry.few a.first.now a.second.now (g.row.BYTES / width) 0, c.requires.rows.0, c.requires.rows.1) in
    let size : c.SIZE.result ≤ 5 = omega (arith, c.SIZE.ensures, g.met.E.Entry.small) in
    omega (arith, mul-le-mul_left c.count_all.result size, few)
