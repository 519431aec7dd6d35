-- What a result that was met says of its number.
-- Assumes nothing.
use mathlib.Core.Path.{◌≡◌, refl, sym, ◌∙◌, ap}
use mathlib.Core.Bool.{true, false, true≢false}
use borrow.Author.Tests.{eq-eqb}
use Rattle.std.specs.Prelude.{Result, Ok, Err, IsErrAnd}
use Rattle.std.specs.Result.{is_ok}
use Rattle.std.proofs.lemmas.Result.{err_from_is_err_and}
use Rattle.constants.specs.Numbers.{taken}
use Rattle.constants.specs.Refusals.{Met, number_of_refusal, number_met}
use Rattle.constants.specs.declared.refusal.Refusal.{Refusal}
use Rattle.constants.proofs.Refusals.{refusal_not_taken}

-- what is taken has number 0
pub taken_met : {met : Met} {done : Unit {0}} → met ≡ Ok done → number_met met ≡ taken
taken_met e = ap (λ (m : Met). number_met m) e

-- and no refusal has
pub not_taken : (refusal : Refusal) → number_of_refusal refusal ≡ taken → ⊥
not_taken refusal z = true≢false (sym (eq-eqb (number_of_refusal refusal) taken z) ∙ refusal_not_taken refusal)

-- which of the two it is, by its test
pub ok_met : (met : Met) → true ≡ is_ok met → number_met met ≡ taken
ok_met (Ok done) e = refl
ok_met (Err refusal) e = absurd (true≢false e)

pub not_ok : (met : Met) → false ≡ is_ok met → number_met met ≡ taken → ⊥
not_ok (Ok done) e = absurd (true≢false (sym e))
not_ok (Err refusal) e = not_taken refusal

-- none is both
pub none_refused : {done : Unit {0}} {refusal : Refusal} → ◌≡◌ {A = Met} (Ok done) (Err refusal) → ⊥
none_refused {refusal = refusal} e = not_taken refusal (sym (ap (λ (m : Met). number_met m) e))

-- what the exit of a `?` hands out
pub exits : {T : Type 0} {result : Result T Refusal} {refusal : Refusal} → IsErrAnd result (λ given. given ≡ refusal) → result ≡ Err refusal
exits {result = result} h = let p = err_from_is_err_and result h in p.1 ∙ ap (λ r. Err r) p.2
