-- `bus::pieces::after_dummy` meets its contract: each return by its test.
use borrow.Author.Tests.{eq-eqb, ne_eqb}
use Rattle.bus.specs.Reads.{after_dummy}
use Rattle.bus.proofs.pieces.after_dummy.Goals as goal

pub returns-then-fresh-eq1 : goal.returns-then-fresh-eq1
unfolding after_dummy
returns-then-fresh-eq1 c = rw (eq-eqb _ _ c.if-fresh-eq1.true)

pub returns-else-fresh-eq1 : goal.returns-else-fresh-eq1
unfolding after_dummy
returns-else-fresh-eq1 c = rw (ne_eqb _ _ c.if-fresh-eq1.false)
