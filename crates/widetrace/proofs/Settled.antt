-- What the run states has one result: both results are of the one outcome.
-- Assumes nothing.
use mathlib.Core.Path.{◌∙◌, sym, ap}
use Rattle.trace.proofs.Settled.{same_stop}
use Rattle.widetrace.specs.WideRun.{WideRan}
use Rattle.widetrace.specs.Settled.{Settled}

pub settled : Settled
settled = record { «run::run» = λ all trace a b p q. let e = p ∙ sym q in rw (same_stop a.0 b.0 (ap (λ (o : WideRan). o.stop) e), ap (λ (o : WideRan). o.lent) e) }
