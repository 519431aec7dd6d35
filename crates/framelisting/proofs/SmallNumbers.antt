-- Numbers of up to three digits: their decimal, and how it is put digit by digit.
-- Assumes nothing.
use Prim.Native.Nat.{ℕ, ◌+◌, ◌/◌, ◌%◌, ◌≤◌, ◌<◌}
use mathlib.Core.Path.{◌≡◌, ◌∙◌}
use mathlib.Core.List.{[], ◌∷◌}
use native.Mathlib.Decide.{dec_lt}
use native.Mathlib.Nat.{mod-eq_of_lt}
use native.Mathlib.Omega.{arith}
use lib.ListN.{length}
use Rattle.framelisting.specs.Decimal.{decimal}
use Rattle.framelisting.specs.Puts.{Puts}
use Rattle.framelisting.specs.declared.text.Text.{Text}
use Rattle.framelisting.proofs.PlainDecimal.{one_digit, more_digits}
use Rattle.framelisting.proofs.PutPieces.{joined}

-- one digit, two and three
one : (n : ℕ) → n < 10 → decimal n ≡ (48 + n) ∷ []
one n h = one_digit n h ∙ rw (mod-eq_of_lt h)

two : (n : ℕ) → 10 ≤ n → n < 100 → decimal n ≡ (48 + n / 10) ∷ (48 + n % 10) ∷ []
two n l h = more_digits n l (omega arith) ∙ rw (one (n / 10) (omega arith))

three : (n : ℕ) → 100 ≤ n → n < 1000 → decimal n ≡ (48 + n / 100) ∷ (48 + n / 10 % 10) ∷ (48 + n % 10) ∷ []
three n l h =
    let e : n / 10 / 10 ≡ n / 100 = omega arith in
    more_digits n (omega arith) (omega arith) ∙ rw (two (n / 10) (omega arith) (omega arith), e)

-- three digits at most
pub small_length : (n : ℕ) → n < 1000 → length (decimal n) ≤ 3
small_length n h = either (dec_lt n 10) (dec_lt n 100)
  where
    either : Dec (n < 10) → Dec (n < 100) → length (decimal n) ≤ 3
    either (yes k) m = rw (one n k) (omega arith)
    either (no k) (yes m) = rw (two n (omega arith) m) (omega arith)
    either (no k) (no m) = rw (three n (omega arith) h) (omega arith)

-- the digits put one after the other
module _ (n : ℕ) {text : Text} where
  pub put_one : n < 10 → {d : ℕ} {later : Text} → d ≡ 48 + n → Puts text (d ∷ []) later → Puts text (decimal n) later
  put_one h e put = rw (one n h, ← e) put

  pub put_two : 10 ≤ n → n < 100 → {d e : ℕ} {t later : Text} → d ≡ 48 + n / 10 → e ≡ 48 + n % 10 → Puts text (d ∷ []) t → Puts t (e ∷ []) later → Puts text (decimal n) later
  put_two l h p q first last = rw (two n l h, ← p, ← q) (joined first last)

  pub put_three : 100 ≤ n → n < 1000 → {d e f : ℕ} {t u later : Text} → d ≡ 48 + n / 100 → e ≡ 48 + n / 10 % 10 → f ≡ 48 + n % 10 → Puts text (d ∷ []) t → Puts t (e ∷ []) u → Puts u (f ∷ []) later → Puts text (decimal n) later
  put_three l h p q s first second last = rw (three n l h, ← p, ← q, ← s) (joined (joined first second) last)
