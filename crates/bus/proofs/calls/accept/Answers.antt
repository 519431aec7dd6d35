-- `bus::calls::accept` meets its contract: it is what is asked first.
use mathlib.Core.Path.{sym, ◌∙◌}
use Rattle.bus.proofs.AskedFirst.{short_first, ranges_next}
use Rattle.bus.proofs.calls.accept.Goals as goal

pub returns-then-short : goal.returns-then-short
returns-then-short c = rw c.refuse.ensures.0 (short_first _ _ (sym c.short.ensures ∙ c.if-short.true))

pub returns : goal.returns
returns c = rw c.refuse-2.ensures.0 (ranges_next _ _ (sym c.short.ensures ∙ c.if-short.false) (sym c.legal.ensures ∙ c.if-legal.false))
