-- `host::compare::ssd1815b_compare_memories` meets its contract by that of the call below it.
use mathlib.Core.Path.{◌∙◌, ap}
use Rattle.host.specs.Compare.{of_compared}
use Rattle.host.proofs.Handed.{compared_handed}
use Rattle.host.proofs.compare.ssd1815b_compare_memories.Goals as goal

pub returns : goal.returns
returns c = rw (c.hand_count.ensures.number, c.hand_count.ensures.count) (compared_handed _ _ ∙ ap of_compared c.compare_memories-compared.ensures)
