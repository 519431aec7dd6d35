-- `hostwide::list::ssd1815b_wide_list` meets its contract by that of the call below it.
use mathlib.Core.Path.{◌∙◌, ap}
use Rattle.hostwide.specs.List.{of_listed}
use Rattle.hostwide.proofs.Handed.{listed_handed}
use Rattle.hostwide.proofs.list.ssd1815b_wide_list.Goals as goal

pub returns : goal.returns
returns c = rw (c.hand_count.ensures.number, c.hand_count.ensures.count) (listed_handed _ _ ∙ ap of_listed c.list_wide-listed.ensures)
