-- Any two results that satisfy what a public call of this crate states are equal: its answer, and what it leaves of the lent count. A field has the name of its call.
use Rattle.std.specs.Prelude.{ℕ, ◌≡◌, Result}
use Rattle.constants.specs.Refusals.{Met, number_of_refusal, number_met, number_counted, count_handed}
use Rattle.constants.specs.Settles.{Settles}
use Rattle.constants.specs.declared.refusal.Refusal.{Refusal}

pub record Settled : Type 0 where
  pub «u8::from» : (refusal : Refusal) → Settles (λ (number : ℕ). number ≡ number_of_refusal refusal)
  pub refusal::number_met : (met : Met) → Settles (λ (number : ℕ). number ≡ number_met met)
  -- number, count
  pub refusal::hand_count : (counted : Result ℕ Refusal) → Settles (λ (o : ℕ × ℕ). (o.0 ≡ number_counted counted) × (o.1 ≡ count_handed counted))
