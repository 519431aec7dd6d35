-- `widebus::stretch::writes` meets its contract: the selected chip's own stretch, or that of both.
use Rattle.widebus.proofs.Selected.{on_left, on_right}
use Rattle.widebus.proofs.stretch.writes.Goals as goal

pub returns-in-Left : goal.returns-in-Left
returns-in-Left c = on_left c.args.registers c.writes-own.result _ _ _ c.in-Left.is c.widened.ensures c.writes-own.ensures

pub returns-in-Right : goal.returns-in-Right
returns-in-Right c = on_right c.args.registers c.writes-own-in-Right.result _ _ _ c.in-Right.is c.widened-in-Right.ensures c.writes-own-in-Right.ensures
