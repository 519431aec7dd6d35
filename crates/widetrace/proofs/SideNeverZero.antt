-- One chip of the terminal refuses with no 0.
-- Assumes nothing.
use mathlib.Core.Path.{subst}
use mathlib.Core.Bool.{◌&&◌}
use native.Mathlib.Omega.{arith}
use Rattle.codes.proofs.Tests.{chosen}
use Rattle.bus.specs.StretchLaws.{NeverZero}
use Rattle.bus.proofs.StretchLaws.{the_chip_never_zero}
use Rattle.trace.specs.Kinds.{replay}
use Rattle.widebus.specs.Events.{are_both, reads_data}
use Rattle.widebus.specs.declared.selection.Side.{Side}
use Rattle.widetrace.specs.Terminal.{WideEvent, selects, happens}
use Rattle.widetrace.specs.EachChip.{hears}
use Rattle.widetrace.specs.Sides.{OneSide, side_step}
use Rattle.widetrace.proofs.TerminalStretches.{NotTaken, not_taken, onward}

-- a side refuses with no 0
side_not_taken : (side : Side) (e : WideEvent) (t : OneSide) → NotTaken (side_step side e t)
unfolding side_step
side_not_taken side (selects selection) t = tt
side_not_taken side (happens recorded) t =
    chosen NotTaken (are_both t.selection && reads_data recorded) _ _ (λ e z. omega arith)
    (λ e. chosen NotTaken (hears side t.selection) _ _ (λ h. onward (replay recorded t.chip) _ (not_taken replay the_chip_never_zero recorded t.chip) (λ c. tt)) (λ h. tt))

pub side_never_zero : (side : Side) → NeverZero (side_step side)
side_never_zero side wide t number e = subst NotTaken e (side_not_taken side wide t)
