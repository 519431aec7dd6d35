-- `bus::registers::Registers::command` meets its contract: what the byte is, obeyed.
use mathlib.Core.Path.{sym}
use Rattle.std.proofs.lemmas.Result.{err_from_is_err_and}
use Rattle.codes.proofs.InRange.{meaning_in_range}
use Rattle.bus.specs.Events.{command}
use Rattle.bus.proofs.registers.Registers.command.Goals as goal

pub obey-requires : goal.obey-requires
obey-requires c = rw c.meaning_of-named.ensures (meaning_in_range _ _ search)

pub returns-in_err-obey : goal.returns-in_err-obey
unfolding command
returns-in_err-obey c =
    let p = err_from_is_err_and c.from_residual.result c.from_residual.ensures.1 in
    rw (p.1, p.2, ← c.meaning_of-named.ensures) (sym c.in_err-obey.ensures.met.0)

pub returns : goal.returns
unfolding command
returns c = rw (← c.meaning_of-named.ensures) (sym c.in_ok-obey.ensures.met)
