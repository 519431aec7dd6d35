-- What each public call states has one result.
-- Assumes nothing.
use mathlib.Core.Path.{◌≡◌, refl, ◌∙◌, sym, ap}
use mathlib.Core.List.{List}
use Prim.Native.Nat.{ℕ}
use native.Mathlib.Omega.{arith}
use Rattle.std.specs.Prelude.{Result, Ok, Err}
use Rattle.constants.specs.declared.refusal.Refusal.{Refusal}
use Rattle.constants.specs.Refusals.{number_of_refusal}
use Rattle.constants.proofs.Refusals.{number_of_refusal_injective}
use Rattle.framelisting.specs.Listing.{listed_of, Outcome, outcome}
use Rattle.framelisting.specs.Settled.{Settled}

-- answers that are listed alike are equal
answer_one : (answer other : Result ℕ Refusal) → listed_of answer ≡ listed_of other → answer ≡ other
answer_one (Ok size) (Ok more) e = let same : size ≡ more = cc in ap (λ n. Ok n) same
answer_one (Ok size) (Err refusal) e = absurd (let z : ◌≡◌ {A = ℕ} 0 1 = cc in omega arith)
answer_one (Err refusal) (Ok size) e = absurd (let z : ◌≡◌ {A = ℕ} 0 1 = cc in omega arith)
answer_one (Err refusal) (Err other) e = let same : number_of_refusal refusal ≡ number_of_refusal other = cc in ap (λ r. Err r) (number_of_refusal_injective refusal other same)

-- an answer and a text are one outcome
one : {answer other : Result ℕ Refusal} {text later : List ℕ} {o : Outcome} → outcome (listed_of answer) text ≡ o → outcome (listed_of other) later ≡ o → ◌≡◌ {A = Result ℕ Refusal × List ℕ} (answer, text) (other, later)
one {answer} {other} {text} {later} p q =
    let both = p ∙ sym q in
    rw (answer_one answer other (ap (λ (o : Outcome). o.answer) both), ap (λ (o : Outcome). o.text) both) refl

pub settled : Settled
settled = record { «list» = λ number offset frame text first second. one; list_wide = λ number offset frame text first second. one }
