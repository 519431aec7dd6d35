-- `bus::registers::Registers::write` meets its contract: each return by what was met before it and what its calls give.
use mathlib.Core.Path.{sym}
use native.Mathlib.Omega.{arith}
use Rattle.std.proofs.lemmas.Result.{err_from_is_err_and}
use Rattle.bus.specs.Events.{write, written}
use Rattle.bus.proofs.Access.{opened, address_inside, write_refused}
use Rattle.bus.proofs.registers.Registers.write.Goals as goal

pub bounds-memory-at : goal.bounds-memory-at
bounds-memory-at c =
    let e = sym c.in_ok-access.ensures in
    omega (arith, c.address-at.ensures, address_inside _ _ e, (opened _ _ e).enough)

pub onward-requires : goal.onward-requires
onward-requires c = (opened _ _ (sym c.in_ok-access.ensures)).column

pub returns-in_err-access : goal.returns-in_err-access
returns-in_err-access c =
    let p = err_from_is_err_and c.from_residual.result c.from_residual.ensures.1 in
    rw (p.1, p.2) (write_refused _ _ _ c.in_err-access.ensures _)

pub returns : goal.returns
unfolding write written
returns c = (
  rw (c.with_fresh.ensures, c.with_column.ensures, c.onward.ensures, ← c.in_ok-access.ensures),
  rw (c.kept.ensures, c.address-at.ensures, ← c.in_ok-access.ensures),
)
