-- What an event gives: a refusal number, or the state after it.
use Rattle.std.specs.Prelude.{ℕ, ◌≡◌}

-- Either a refusal number or what was asked for.
pub data Result (A : Type 0) : Type 0 where
  refuses : ℕ → Result A
  gives : A → Result A

abbrev pub on_result : {A B : Type 0} → Result A → (ℕ → B) → (A → B) → B
on_result (refuses number) stop go = stop number
on_result (gives a) stop go = go a

-- Both refuse with one number, or both give, and what they give is related.
abbrev pub Matches : {A : Type 0} → (A → A → Type 0) → Result A → Result A → Type 0
Matches R (refuses one) (refuses other) = one ≡ other
Matches R (gives one) (gives other) = R one other
Matches R (refuses one) (gives other) = ⊥
Matches R (gives one) (refuses other) = ⊥
