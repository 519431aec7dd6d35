-- `widepicture::whole::shade_of` meets its contract: display off, all lit, and two ways to tell nothing.
use borrow.Author.Rules.{rules}
use Rattle.widepicture.proofs.OneShade.{untold, tells_dark, tells_lit}
use Rattle.widepicture.proofs.whole.shade_of.Goals as goal

pub returns-then-registers-eq0 : goal.returns-then-registers-eq0
returns-then-registers-eq0 c = search (rules, tells_dark)

pub returns-then-registers-eq-ALL_ROWS : goal.returns-then-registers-eq-ALL_ROWS
returns-then-registers-eq-ALL_ROWS c = search (rules, tells_lit)
