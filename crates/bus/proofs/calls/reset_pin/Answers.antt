-- `bus::calls::reset_pin` meets its contract: only the lengths are asked, and any registers give the power-on state.
use mathlib.Core.Path.{refl}
use Rattle.bus.specs.Events.{reset_pin}
use Rattle.bus.specs.Chip.{step}
use Rattle.bus.specs.Calls.{refused, asked_before, call_on, call}
use Rattle.bus.proofs.Concluded.{as_concluded}
use Rattle.bus.proofs.calls.reset_pin.Goals as goal

pub returns-then-short : goal.returns-then-short
unfolding call asked_before call_on refused
returns-then-short c = rw (c.refuse.ensures.1, ← c.short.ensures, c.if-short.true)

pub returns : goal.returns
unfolding call asked_before call_on step reset_pin
returns c =
    rw (← c.short.ensures, c.if-short.false)
    (as_concluded _ _ c.reset_pin.ensures c.conclude.ensures.0 c.conclude.ensures.1 refl)
