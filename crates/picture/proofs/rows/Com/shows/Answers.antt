-- `picture::rows::Com::shows` meets its contract: the sums fit two bytes, and k is at most M - 1.
use mathlib.Core.Path.{◌≡◌}
use Prim.Native.Nat.{◌+◌, ◌-◌}
use native.Mathlib.Omega.{arith}
use borrow.Author.Tests.{eq-eqb, ne_eqb}
use Rattle.picture.specs.Scan.{ram_row_of}
use Rattle.picture.proofs.rows.Com.shows.Goals as goal

pub returns-then-registers-eq0 : goal.returns-then-registers-eq0
unfolding ram_row_of
returns-then-registers-eq0 c = rw (eq-eqb _ _ c.if-registers-eq0.true, c.around.ensures, c.from.ensures, c.from-then-registers-eq0.ensures)

pub returns : goal.returns
unfolding ram_row_of
returns c =
    let a = c.args in
    let r = a.registers in
    let k = a.self.0 in
    let e : r.start + (r.multiplex + 1) - 1 - k ≡ r.start + (r.multiplex - k) = omega arith in
    rw (ne_eqb _ _ c.if-registers-eq0.false, e, c.around-2.ensures, c.from-2.ensures, c.from-3.ensures, c.turned_round-turned.ensures)
