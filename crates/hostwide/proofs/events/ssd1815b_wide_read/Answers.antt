-- `hostwide::events::ssd1815b_wide_read` meets its contract by that of the call below it.
use mathlib.Core.Path.{ap}
use Rattle.hostwide.specs.Events.{flag, of_read}
use Rattle.hostwide.proofs.ReadBytes.{byte_handed, mark_handed}
use Rattle.hostwide.proofs.events.ssd1815b_wide_read.Goals as goal

pub returns-in-Ok : goal.returns-in-Ok
returns-in-Ok c = rw (c.unwrap_or.ensures, byte_handed c.in-Ok.read, c.from.ensures, mark_handed _ _ c.is_none.ensures) (ap of_read c.in-Ok.ensures)

pub returns-in-Err : goal.returns-in-Err
unfolding flag
returns-in-Err c = rw c.from-in-Err.ensures (ap of_read c.in-Err.ensures)
