-- `hostwide::page::ssd1815b_wide_page` meets its contract: the part's length where it is handed back, and 0 where it is refused.
use mathlib.Core.Path.{sym, ◌∙◌}
use Rattle.hostwide.specs.Page.{of_handed}
use Rattle.hostwide.proofs.PageCode.{refusal_reply}
use Rattle.hostwide.proofs.page.ssd1815b_wide_page.Goals as goal

pub returns-in-Ok : goal.returns-in-Ok
unfolding of_handed
returns-in-Ok c = rw c.from.ensures c.in-Ok.ensures

pub returns-in-Err : goal.returns-in-Err
returns-in-Err c = rw c.from-in-Err.ensures (sym (refusal_reply c.args.page c.in-Err.refusal) ∙ c.in-Err.ensures)
