-- `bus::accepted::access` meets its contract: the length first, then what the registers meet.
use Rattle.bus.proofs.OnState.{access_short, access_long}
use Rattle.bus.proofs.accepted.access.Goals as goal

pub returns-in_default : goal.returns-in_default
returns-in_default c = access_short _ _ c.in_default.ensures.cases

pub returns : goal.returns
returns c = let first = c.in-Some.ensures.cases in access_long _ _ first.enough first.same (rw c.load.ensures at c.access.ensures)
