-- `bus::registers::Registers::power_on` meets its contract by computing.
use mathlib.Core.Path.{refl}
use Rattle.bus.specs.Registers.{ranges, power_on}
use Rattle.bus.proofs.registers.Registers.power_on.Goals as goal

pub returns : goal.returns
unfolding ranges power_on
returns c = refl
