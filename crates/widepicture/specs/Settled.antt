-- Any two results that satisfy what a public call of this crate states are equal: its answer, and what it leaves of the lent frame. A field has the name of its call.
use Rattle.std.specs.Prelude.{ℕ, ◌≡◌, List}
use Rattle.constants.specs.Refusals.{Met, number_met}
use Rattle.constants.specs.Settles.{Settles}
use Rattle.picture.specs.Draw.{drawn}
use Rattle.widebus.specs.Pair.{Pair, Lent}
use Rattle.widepicture.specs.WideDraw.{draw_wide}

pub record Settled : Type 0 where
  -- result, frame
  pub «draw::draw» : (all : Pair Lent) (was : List ℕ) → Settles (λ (o : Met × List ℕ). drawn (number_met o.0) o.1 ≡ draw_wide all was)
