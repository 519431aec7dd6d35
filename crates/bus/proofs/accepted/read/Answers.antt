-- `bus::accepted::read` meets its contract: the length first, then what the registers answer.
use mathlib.Core.Path.{refl, sym, subst}
use Rattle.std.proofs.lemmas.Result.{err_from_is_err_and}
use Rattle.bus.specs.Events.{number_of, byte_of, dummy_of}
use Rattle.bus.specs.Registers.{registers_of}
use Rattle.bus.specs.Chip.{data_read, step, Leaves}
use Rattle.bus.specs.Calls.{reply_of, state_after}
use Rattle.bus.proofs.AskedFirst.{Moved, read_leaves}
use Rattle.bus.proofs.OnState.{number_alone, short_state, in_image}
use Rattle.bus.proofs.accepted.read.Goals as goal

pub returns-in_default : goal.returns-in_default
returns-in_default c = short_state data_read _ _ c.in_default.ensures.cases (number_alone _)

pub returns-in_err-read : goal.returns-in_err-read
unfolding step reply_of state_after number_of byte_of dummy_of
returns-in_err-read c =
    let first = c.in-Some.ensures.cases in
    let p = err_from_is_err_and c.from_residual.result c.from_residual.ensures.1 in
    let met = rw c.load.ensures at c.in_err-read.ensures in
    rw (p.1, p.2) (in_image data_read _ _ first.enough first.same met refl refl refl)

pub move_on-requires : goal.move_on-requires
move_on-requires c =
    let met = rw c.load.ensures at c.in_ok-read.ensures in
    subst (Leaves (Moved (registers_of c.in-Some.image.now))) (sym met) (read_leaves _ _)

pub returns : goal.returns
unfolding step reply_of state_after number_of byte_of dummy_of
returns c =
    let first = c.in-Some.ensures.cases in
    let met = rw c.load.ensures at c.in_ok-read.ensures in
    in_image data_read _ _ first.enough first.same met refl c.move_on.ensures refl
