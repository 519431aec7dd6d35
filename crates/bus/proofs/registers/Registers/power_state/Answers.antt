-- `bus::registers::Registers::power_state` meets its contract: the tests are the definition's.
use borrow.Author.Tests.{eq-eqb, ne_eqb}
use Rattle.bus.specs.Registers.{power_state}
use Rattle.bus.proofs.registers.Registers.power_state.Goals as goal

pub returns-then-self-eq1-2 : goal.returns-then-self-eq1-2
unfolding power_state
returns-then-self-eq1-2 c = rw (eq-eqb _ _ c.if-self-eq0.true, eq-eqb _ _ c.if-self-eq1.true, eq-eqb _ _ c.if-self-eq1-2.true)

pub returns-then-self-eq1 : goal.returns-then-self-eq1
unfolding power_state
returns-then-self-eq1 c = rw (eq-eqb _ _ c.if-self-eq0.true, eq-eqb _ _ c.if-self-eq1.true, ne_eqb _ _ c.if-self-eq1-2.false)

pub returns-else-self-eq1 : goal.returns-else-self-eq1
unfolding power_state
returns-else-self-eq1 c = rw (eq-eqb _ _ c.if-self-eq0.true, ne_eqb _ _ c.if-self-eq1.false)

pub returns-else-self-eq0 : goal.returns-else-self-eq0
unfolding power_state
returns-else-self-eq0 c = rw (ne_eqb _ _ c.if-self-eq0.false)
