-- `bus::registers::Registers::read` meets its contract: each return by what was met before it, the tests that led there and what its calls give.
use borrow.Author.Tests.{eq-eqb, ne_eqb}
use mathlib.Core.Path.{sym}
use native.Mathlib.Omega.{arith}
use Rattle.std.proofs.lemmas.Result.{err_from_is_err_and}
use Rattle.bus.specs.Events.{read}
use Rattle.bus.proofs.Access.{opened, address_inside, read_refused}
use Rattle.bus.proofs.registers.Registers.read.Goals as goal

pub onward-requires : goal.onward-requires
onward-requires c = (opened _ _ (sym c.in_ok-access.ensures)).column

pub bounds-memory-at : goal.bounds-memory-at
bounds-memory-at c =
    let e = sym c.in_ok-access.ensures in
    omega (arith, c.address-at.ensures, address_inside _ _ e, (opened _ _ e).enough)

pub returns-in_err-access : goal.returns-in_err-access
returns-in_err-access c =
    let p = err_from_is_err_and c.from_residual.result c.from_residual.ensures.1 in
    rw (p.1, p.2) (read_refused _ _ _ c.in_err-access.ensures)

pub returns-then-self-eq1 : goal.returns-then-self-eq1
unfolding read
returns-then-self-eq1 c = rw (c.with_fresh-registers.ensures, ← c.in_ok-access.ensures, eq-eqb _ _ c.if-self-eq1.true)

pub returns-then-self-eq1-2 : goal.returns-then-self-eq1-2
unfolding read
returns-then-self-eq1-2 c = rw (c.kept.ensures, c.address-at.ensures, ← c.in_ok-access.ensures, ne_eqb _ _ c.if-self-eq1.false, eq-eqb _ _ c.if-self-eq1-2.true)

pub returns : goal.returns
unfolding read
returns c = rw (c.with_column-moved.ensures, c.onward.ensures, c.kept.ensures, c.address-at.ensures, ← c.in_ok-access.ensures, ne_eqb _ _ c.if-self-eq1.false, ne_eqb _ _ c.if-self-eq1-2.false)
