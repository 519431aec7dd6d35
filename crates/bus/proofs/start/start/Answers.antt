-- `bus::start::start` meets its contract by what its calls leave.
use mathlib.Core.Path.{sym, ◌∙◌}
use Rattle.bus.proofs.Legal.{long}
use Rattle.bus.specs.Start.{start_of}
use Rattle.bus.proofs.start.start.Goals as goal

pub returns-then-short : goal.returns-then-short
unfolding start_of
returns-then-short c = rw (← c.short.ensures, c.if-short.true)

pub clear-requires : goal.clear-requires
clear-requires c = (long _ _ (sym c.short.ensures ∙ c.if-short.false)).1

pub returns : goal.returns
unfolding start_of
returns c = rw (← c.short.ensures, c.if-short.false, c.clear.ensures, c.store.ensures, c.registers_at_start-registers.ensures)
