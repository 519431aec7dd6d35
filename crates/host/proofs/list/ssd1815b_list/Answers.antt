-- `host::list::ssd1815b_list` meets its contract by that of the call below it.
use mathlib.Core.Path.{◌∙◌, ap}
use Rattle.host.specs.List.{of_listed}
use Rattle.host.proofs.Handed.{listed_handed}
use Rattle.host.proofs.list.ssd1815b_list.Goals as goal

pub returns : goal.returns
returns c = rw (c.hand_count.ensures.number, c.hand_count.ensures.count) (listed_handed _ _ ∙ ap of_listed c.list-listed.ensures)
