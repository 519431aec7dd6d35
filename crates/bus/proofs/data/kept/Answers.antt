-- `bus::data::kept` meets its contract: the test is the definition's.
use borrow.Author.Tests.{eq-eqb, ne_eqb}
use Rattle.bus.specs.Memory.{kept}
use Rattle.bus.proofs.data.kept.Goals as goal

pub returns-then-page-eq-ICON_PAGE : goal.returns-then-page-eq-ICON_PAGE
unfolding kept
returns-then-page-eq-ICON_PAGE c = rw (eq-eqb _ _ c.if-page-eq-ICON_PAGE.true)

pub returns-else-page-eq-ICON_PAGE : goal.returns-else-page-eq-ICON_PAGE
unfolding kept
returns-else-page-eq-ICON_PAGE c = rw (ne_eqb _ _ c.if-page-eq-ICON_PAGE.false)
