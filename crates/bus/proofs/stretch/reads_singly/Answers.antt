-- `bus::stretch::reads_singly` meets its contract: what is left of the stretch decides.
use mathlib.Core.Path.{◌≡◌, refl, sym, ◌∙◌}
use native.Mathlib.Omega.{arith}
use lib.ListN.{length}
use Rattle.bus.specs.Chip.{step}
use Rattle.bus.specs.Recorded.{read_as, replay}
use Rattle.bus.proofs.Replayed.{read_agrees, read_differs_lem, read_refused}
use Rattle.bus.proofs.StretchLaws.{none_left, turn_refused, turn_given}
use Rattle.bus.proofs.stretch.reads_singly.Goals as goal

pub returns-in_default : goal.returns-in_default
unfolding step
returns-in_default c =
    let loop = c.loop-at in
    let bytes = c.args.bytes.now in
    rw (c.halted.ensures, c.and.ensures, c.in_default.is)
    (sym (loop.invariant ∙ turn_refused replay read_as bytes loop.at (omega arith) _ _ (read_refused _ _ _ c.in_default.ensures refl)))

pub loop-at-preserved : goal.loop-at-preserved
unfolding step
loop-at-preserved c =
    let loop = c.loop-at in
    let bytes = c.args.bytes.now in
    loop.invariant ∙ turn_given replay read_as bytes loop.at (omega arith) _ _ (read_agrees _ _ _ c.in-Ok.ensures refl (sym c.agrees.ensures ∙ c.if-agrees.true))

pub returns-else-agrees : goal.returns-else-agrees
unfolding step
returns-else-agrees c =
    let loop = c.loop-at in
    let bytes = c.args.bytes.now in
    rw c.halted-else-agrees.ensures
    (sym (loop.invariant ∙ turn_refused replay read_as bytes loop.at (omega arith) _ _ (read_differs_lem _ _ _ c.in-Ok.ensures refl (sym c.agrees.ensures ∙ c.if-agrees.false))))

pub returns : goal.returns
returns c =
    let loop = c.loop-at in
    let bytes = c.args.bytes.now in
    let e : loop.at ≡ length bytes = omega arith in
    rw c.halted-2.ensures (sym (loop.invariant ∙ rw e (none_left replay read_as bytes _)))
