-- `widebus::stretch::commands` meets its contract: the selected chip's own stretch, or that of both.
use Rattle.widebus.proofs.Selected.{on_left, on_right}
use Rattle.widebus.proofs.stretch.commands.Goals as goal

pub returns-in-Left : goal.returns-in-Left
returns-in-Left c = λ left right. on_left c.args.registers c.commands-own.result _ left right c.in-Left.is c.widened.ensures (c.commands-own.ensures left)

pub returns-in-Right : goal.returns-in-Right
returns-in-Right c = λ left right. on_right c.args.registers c.commands-own-in-Right.result _ left right c.in-Right.is c.widened-in-Right.ensures (c.commands-own-in-Right.ensures right)
