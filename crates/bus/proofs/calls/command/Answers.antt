-- `bus::calls::command` meets its contract: what was asked first, and then the event on an accepted state.
use mathlib.Core.Path.{refl, ◌∙◌}
use Rattle.std.proofs.lemmas.Result.{err_from_is_err_and}
use Rattle.bus.specs.Chip.{command_byte}
use Rattle.bus.specs.Events.{number_of, byte_of, dummy_of}
use Rattle.bus.specs.Calls.{reply_of, asked_before}
use Rattle.bus.proofs.Concluded.{refuses}
use Rattle.bus.proofs.OnState.{on_accepted_lem}
use Rattle.bus.proofs.calls.command.Goals as goal

pub returns-in_err-accept : goal.returns-in_err-accept
unfolding asked_before reply_of number_of byte_of dummy_of
returns-in_err-accept c =
    let p = err_from_is_err_and c.from_residual.result c.from_residual.ensures.1 in
    rw (p.1, p.2) (refuses (command_byte _) _ _ refl c.in_err-accept.ensures refl)

pub returns : goal.returns
returns c = let accepted = c.in_ok-accept.ensures in c.command.ensures _ ∙ on_accepted_lem (command_byte _) _ _ accepted.long_enough accepted.in_ranges
