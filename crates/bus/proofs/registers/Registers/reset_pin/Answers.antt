-- `bus::registers::Registers::reset_pin` meets its contract: the power-on registers, answered silently.
use Rattle.bus.specs.Registers.{power_on}
use Rattle.bus.specs.Events.{reset_pin}
use Rattle.bus.proofs.registers.Registers.reset_pin.Goals as goal

pub returns : goal.returns
unfolding reset_pin power_on
returns c = rw c.power_on.ensures
