-- Any two results that satisfy what a public call of this crate states are equal: its answer, and what it leaves of the buffer. Each field has the name of its call.
use Rattle.std.specs.Prelude.{ℕ, ◌≡◌, List, Result}
use Rattle.constants.specs.Settles.{Settles}
use Rattle.constants.specs.declared.refusal.Refusal.{Refusal}
use Rattle.framelisting.specs.Listing.{outcome, listed_of, listed, listed_wide}

pub record Settled : Type 0 where
  -- answer, text
  pub «list» : (number offset : ℕ) (frame text : List ℕ) → Settles (λ (o : Result ℕ Refusal × List ℕ). outcome (listed_of o.0) o.1 ≡ listed number offset frame text)
  -- answer, text
  pub list_wide : (number offset : ℕ) (frame text : List ℕ) → Settles (λ (o : Result ℕ Refusal × List ℕ). outcome (listed_of o.0) o.1 ≡ listed_wide number offset frame text)
