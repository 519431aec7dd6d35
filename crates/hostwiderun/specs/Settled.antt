-- Any two results that satisfy what the exported call states are equal: its answer, and what it leaves of everything lent to be changed. The field has the name of its call.
use Rattle.std.specs.Prelude.{ℕ, ◌≡◌, List}
use Rattle.constants.specs.Settles.{Settles}
use Rattle.trace.specs.Run.{stop_of}
use Rattle.widebus.specs.Pair.{Pair, Lent}
use Rattle.widetrace.specs.WideRun.{wide_ran, wide_run}

pub record Settled : Type 0 where
  -- number, offset, count, states and memories
  pub ssd1815b_wide_run : (all : Pair Lent) (bytes : List ℕ) → Settles (λ (o : ℕ × ℕ × ℕ × Pair Lent). wide_ran (stop_of o.0 o.1 o.2) o.3 ≡ wide_run all bytes)
