-- `bus::accepted::command` meets its contract: what the byte is, is obeyed in the image.
use Rattle.bus.proofs.OnState.{number_alone, short_state, command_in_image}
use Rattle.bus.proofs.First.{obeyed_in}
use Rattle.bus.specs.Chip.{command_byte}
use Rattle.codes.proofs.InRange.{meaning_in_range}
use native.Mathlib.Omega.{arith}
use lib.ListN.{length-take}
use mathlib.Core.Path.{◌∙◌, ap}
use lib.ListN.{length}
use Rattle.bus.proofs.accepted.command.Goals as goal

pub returns-in_default : goal.returns-in_default
returns-in_default c = λ memory. short_state (command_byte _) _ memory c.in_default.ensures.cases (number_alone _)

pub obey-requires : goal.obey-requires
obey-requires c = rw c.meaning_of-named.ensures (meaning_in_range _ _ search)

pub returns : goal.returns
returns c =
    let first = c.in-Some.ensures.cases in
    let long = ap length first.same ∙ omega (arith, first.enough, length-take 23 c.args.state.now) in
    command_in_image _ _ first.enough first.same (rw c.at.ensures at c.meaning_of-named.ensures) _ (obeyed_in _ _ long (c.obey.ensures.size ∙ long) c.obey.result _ c.obey.ensures.met)
