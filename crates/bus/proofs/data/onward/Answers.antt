-- `bus::data::onward` meets its contract: the test is the definition's.
use borrow.Author.Tests.{eq-eqb, ne_eqb}
use Rattle.bus.specs.Memory.{onward}
use Rattle.bus.proofs.data.onward.Goals as goal

pub returns-then-column-eq-LAST_COLUMN : goal.returns-then-column-eq-LAST_COLUMN
unfolding onward
returns-then-column-eq-LAST_COLUMN c = rw (eq-eqb _ _ c.if-column-eq-LAST_COLUMN.true)

pub returns-else-column-eq-LAST_COLUMN : goal.returns-else-column-eq-LAST_COLUMN
unfolding onward
returns-else-column-eq-LAST_COLUMN c = rw (ne_eqb _ _ c.if-column-eq-LAST_COLUMN.false)
