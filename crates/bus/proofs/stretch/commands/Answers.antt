-- `bus::stretch::commands` meets its contract: what is left of the stretch decides.
use mathlib.Core.Path.{◌≡◌, refl, sym, ◌∙◌}
use native.Mathlib.Omega.{arith}
use lib.ListN.{length}
use Rattle.bus.specs.Chip.{command_byte, step}
use Rattle.bus.specs.Recorded.{recorded_command, replay}
use Rattle.bus.proofs.Replayed.{event_taken, event_refused}
use Rattle.bus.proofs.StretchLaws.{none_left, turn_refused, turn_given}
use Rattle.bus.proofs.stretch.commands.Goals as goal

pub returns-in_default : goal.returns-in_default
unfolding step
returns-in_default c =
    let loop = c.loop-at in
    let bytes = c.args.bytes.now in
    λ memory.
    rw (c.halted.ensures, c.and.ensures, c.in_default.is)
    (sym (loop.invariant memory ∙ turn_refused replay recorded_command bytes loop.at (omega arith) _ _ (event_refused (command_byte _) _ _ c.in_default.ensures refl)))

pub loop-at-preserved : goal.loop-at-preserved
unfolding step
loop-at-preserved c =
    let loop = c.loop-at in
    let bytes = c.args.bytes.now in
    λ memory. loop.invariant memory ∙ turn_given replay recorded_command bytes loop.at (omega arith) _ _ (event_taken (command_byte _) _ _ c.in-Ok.ensures refl refl)

pub returns : goal.returns
returns c =
    let loop = c.loop-at in
    let bytes = c.args.bytes.now in
    let e : loop.at ≡ length bytes = omega arith in
    λ memory. rw c.halted-2.ensures (sym (loop.invariant memory ∙ rw e (none_left replay recorded_command bytes _)))
