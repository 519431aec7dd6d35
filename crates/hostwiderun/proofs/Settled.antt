-- What the exported call states has one result.
-- Assumes nothing.
use mathlib.Core.Path.{sym, ◌∙◌, ap}
use Rattle.widetrace.specs.WideRun.{WideRan}
use Rattle.hostwiderun.specs.Settled.{Settled}

pub settled : Settled
settled = record {
  ssd1815b_wide_run = λ all bytes a b p q. ap (λ (o : WideRan). (o.stop.number, o.stop.offset, o.stop.count, o.lent)) (p ∙ sym q);
}
