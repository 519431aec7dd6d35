-- Any two results that satisfy what a public call of this crate states are equal: its answer, and what it leaves of everything lent to be changed. A field has the name of its call.
use Rattle.std.specs.Prelude.{ℕ, ◌≡◌, List}
use Rattle.constants.specs.Settles.{Settles}
use Rattle.trace.specs.Code.{stop_met}
use Rattle.trace.specs.declared.run.Stop.{Stop}
use Rattle.widebus.specs.Pair.{Pair, Lent}
use Rattle.widetrace.specs.WideRun.{wide_ran, wide_run}

pub record Settled : Type 0 where
  -- stop, states and memories
  pub «run::run» : (all : Pair Lent) (trace : List ℕ) → Settles (λ (o : Stop × Pair Lent). wide_ran (stop_met o.0) o.1 ≡ wide_run all trace)
