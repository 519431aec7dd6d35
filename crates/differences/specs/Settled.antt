-- Any two results that satisfy what a public call of this crate states are equal: its answer, and what it leaves of the list buffer. A field has the name of its call.
use Rattle.std.specs.Prelude.{ℕ, ◌≡◌, List, Result}
use Rattle.constants.specs.Settles.{Settles}
use Rattle.differences.specs.Compare.{outcome, compare_frames, compare_memories}
use Rattle.differences.specs.Compared.{compared_of}
use Rattle.constants.specs.declared.refusal.Refusal.{Refusal}

pub record Settled : Type 0 where
  -- answer, list
  pub frames::compare_frames : (first second list : List ℕ) → Settles (λ (o : Result ℕ Refusal × List ℕ). outcome (compared_of o.0) o.1 ≡ compare_frames first second list)
  pub memories::compare_memories : (first second list : List ℕ) → Settles (λ (o : Result ℕ Refusal × List ℕ). outcome (compared_of o.0) o.1 ≡ compare_memories first second list)
