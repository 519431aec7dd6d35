-- `widebus::calls::tried` meets its contract: a short state is refused, and the copy has the registers of any other.
use Rattle.widebus.proofs.OnBoth.{tried_short, on_a_copy}
use Rattle.widebus.proofs.calls.tried.Goals as goal

pub returns-in_default : goal.returns-in_default
returns-in_default c = tried_short _ _ c.in_default.ensures.cases

pub returns : goal.returns
returns c = let first = c.in-Some.ensures.cases in on_a_copy _ _ first.enough first.same c.command.ensures
