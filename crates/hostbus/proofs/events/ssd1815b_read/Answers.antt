-- `hostbus::events::ssd1815b_read` meets its contract by that of the call below it, result by result.
use mathlib.Core.Path.{ap}
use Rattle.hostbus.specs.Events.{flag, of_read}
use Rattle.hostbus.proofs.events.ssd1815b_read.Goals as goal

pub returns-in-Ok-Some : goal.returns-in-Ok-Some
unfolding flag
returns-in-Ok-Some c = ap of_read (rw c.in-Ok-Some.field-0-is at c.in-Ok-Some.ensures)

pub returns-in-Ok-None : goal.returns-in-Ok-None
unfolding flag
returns-in-Ok-None c = ap of_read (rw c.in-Ok-None.field-0-is at c.in-Ok-None.ensures)

pub returns-in-Err : goal.returns-in-Err
unfolding flag
returns-in-Err c = rw c.from.ensures (ap of_read c.in-Err.ensures)
