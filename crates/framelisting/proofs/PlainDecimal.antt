-- Decimal numbers: what one step of the definition says; and read back, their bytes are digits, say the number, and end where the digits end.
-- Assumes nothing.
use Prim.Native.Nat.{ℕ, zero, suc, ◌+◌, ◌-◌, ◌*◌, ◌/◌, ◌%◌, ◌^◌, ◌≤◌, ◌<◌}
use mathlib.Core.Path.{◌≡◌, refl, sym, ◌∙◌, ap}
use mathlib.Core.Bool.{Bool, true, false, cond}
use mathlib.Core.List.{List, [], ◌∷◌, ◌++◌}
use native.Mathlib.Nat.{pow-suc}
use native.Mathlib.Omega.{arith}
use borrow.Author.Tests.{ltb-true, ltb-false, lt-ltb, le-ltb}
use lib.Dec.{ltb}
use lib.ListN.{length, length-append, get_or, get_or-append}
use Rattle.framelisting.specs.Decimal.{digits, decimal}
use Rattle.framelisting.specs.PlainDecimal.{Digits, value, Plain}

-- as many digits as n has are enough
enough : (f g n : ℕ) → n < 10 ^ suc f → n < 10 ^ suc g → digits (suc f) n ≡ digits (suc g) n
unfolding digits
enough zero g n p q = rw (lt-ltb n 10 p)
enough (suc f) zero n p q = rw (lt-ltb n 10 q)
enough (suc f) (suc g) n p q =
    rw (enough f g (n / 10) (omega (arith, p, pow-suc 10 (suc f))) (omega (arith, q, pow-suc 10 (suc g))))

-- below 10 one digit
pub one_digit : (n : ℕ) → n < 10 → decimal n ≡ (48 + n % 10) ∷ []
unfolding decimal digits
one_digit n h = rw (lt-ltb n 10 h)

-- from 10 on the digits of the tenth part, and then the last one
last_digit : (f n : ℕ) → 10 ≤ n → digits (suc f) n ≡ digits f (n / 10) ++ ((48 + n % 10) ∷ [])
unfolding digits
last_digit f n h = rw (le-ltb n 10 h)

pub more_digits : (n : ℕ) → 10 ≤ n → n < 2 ^ 64 → decimal n ≡ decimal (n / 10) ++ ((48 + n % 10) ∷ [])
unfolding decimal
more_digits n h k = last_digit 19 n h ∙ rw (enough 18 19 (n / 10) (omega (arith, k)) (omega (arith, k)))

digits_and : (a b : List ℕ) → Digits a → Digits b → Digits (a ++ b)
digits_and [] b p q = q
digits_and (d ∷ a) b p q = (p.0, p.1, digits_and a b p.2 q)

all_digits : (f n : ℕ) → Digits (digits f n)
unfolding digits
all_digits zero n = tt
all_digits (suc f) n = digits_and (cond (ltb n 10) [] (digits f (n / 10))) ((48 + n % 10) ∷ []) (by (ltb n 10) (all_digits f (n / 10))) (omega arith, omega arith, tt)
  where
    by : (t : Bool) → Digits (digits f (n / 10)) → Digits (cond t [] (digits f (n / 10)))
    by true r = tt
    by false r = r

value_and : (so : ℕ) (a b : List ℕ) → value so (a ++ b) ≡ value (value so a) b
value_and so [] b = refl
value_and so (d ∷ a) b = value_and (so * 10 + (d - 48)) a b

-- read back, a number's digits say it
read_back : (f n : ℕ) → n < 10 ^ suc f → value 0 (digits (suc f) n) ≡ n
unfolding digits
read_back zero n h = by (ltb n 10) refl
  where
    by : (t : Bool) → ltb n 10 ≡ t → value 0 (cond t [] (digits 0 (n / 10)) ++ ((48 + n % 10) ∷ [])) ≡ n
    by true e = omega (arith, h)
    by false e = omega (arith, h)
read_back (suc f) n h = by (ltb n 10) refl (read_back f (n / 10) (omega (arith, h, pow-suc 10 (suc f))))
  where
    by : (t : Bool) → ltb n 10 ≡ t → value 0 (digits (suc f) (n / 10)) ≡ n / 10 → value 0 (cond t [] (digits (suc f) (n / 10)) ++ ((48 + n % 10) ∷ [])) ≡ n
    by true e r = omega (arith, ltb-true n 10 e)
    by false e r = value_and 0 (digits (suc f) (n / 10)) ((48 + n % 10) ∷ []) ∙ rw r (omega arith)

decimal_alone : (m n : ℕ) → m < 2 ^ 64 → n < 2 ^ 64 → decimal m ≡ decimal n → m ≡ n
unfolding decimal
decimal_alone m n h k e = sym (read_back 19 m (omega (arith, h))) ∙ ap (value 0) e ∙ read_back 19 n (omega (arith, k))

some_digit : (f n : ℕ) → 0 < length (digits (suc f) n)
unfolding digits
some_digit f n = omega (arith, length-append (cond (ltb n 10) [] (digits f (n / 10))) ((48 + n % 10) ∷ []))

-- no leading zero: only 0 begins with the digit 0
no_leading_zero : (f n : ℕ) → n < 10 ^ suc f → get_or (digits (suc f) n) 0 0 ≡ 48 → n ≡ 0
unfolding digits
no_leading_zero zero n h e = by (ltb n 10) e
  where
    by : (t : Bool) → get_or (cond t [] (digits 0 (n / 10)) ++ ((48 + n % 10) ∷ [])) 0 0 ≡ 48 → n ≡ 0
    by true e = omega (arith, h, e)
    by false e = omega (arith, h, e)
no_leading_zero (suc f) n h e = by (ltb n 10) refl e (no_leading_zero f (n / 10) (omega (arith, h, pow-suc 10 (suc f))))
  where
    by : (t : Bool) → ltb n 10 ≡ t → get_or (cond t [] (digits (suc f) (n / 10)) ++ ((48 + n % 10) ∷ [])) 0 0 ≡ 48 → (get_or (digits (suc f) (n / 10)) 0 0 ≡ 48 → n / 10 ≡ 0) → n ≡ 0
    by true d e r = omega (arith, ltb-true n 10 d, e)
    by false d e r =
        let first = get_or-append (digits (suc f) (n / 10)) ((48 + n % 10) ∷ []) 0 0 (some_digit f (n / 10)) in
        absurd (omega (arith, ltb-false n 10 d, r (sym first ∙ e)))

-- what follows a number in a listing does not begin with a digit
abbrev pub Stop : List ℕ → Type 0
Stop s = get_or s 0 0 < 48

digits_end : (a b s t : List ℕ) → Digits a → Digits b → Stop s → Stop t → a ++ s ≡ b ++ t → (a ≡ b) × (s ≡ t)
digits_end [] [] s t p q h k e = (refl, e)
digits_end [] (d ∷ b) s t p q h k e = absurd (omega (arith, h, q.0, ap (λ l. get_or l 0 0) e))
digits_end (c ∷ a) [] s t p q h k e = absurd (omega (arith, k, p.0, ap (λ l. get_or l 0 0) e))
digits_end (c ∷ a) (d ∷ b) s t p q h k e =
    let first : c ≡ d = cc in
    let rest : a ++ s ≡ b ++ t = cc in
    let r = digits_end a b s t p.2 q.2 h k rest in
    (cc, r.1)

-- so two texts that begin with a number and are equal begin with the same number
pub number_first : (m n : ℕ) (s t : List ℕ) → m < 2 ^ 64 → n < 2 ^ 64 → Stop s → Stop t → decimal m ++ s ≡ decimal n ++ t → (m ≡ n) × (s ≡ t)
unfolding decimal
number_first m n s t h k p q e =
    let r = digits_end (decimal m) (decimal n) s t (digits_of m) (digits_of n) p q e in
    (decimal_alone m n h k r.0, r.1)
  where
    digits_of : (n : ℕ) → Digits (decimal n)
    digits_of n = all_digits 20 n

-- a number begins with a digit
pub digit_first : (n : ℕ) (s : List ℕ) → get_or (decimal n ++ s) 0 0 ≤ 57
unfolding decimal
digit_first n s = rw (get_or-append (digits 20 n) s 0 0 (some_digit 19 n)) (by (digits 20 n) (all_digits 20 n))
  where
    by : (l : List ℕ) → Digits l → get_or l 0 0 ≤ 57
    by [] p = omega arith
    by (d ∷ more) p = p.1

pub plain : Plain
unfolding decimal digits
plain = record {
  each = λ n h. record { alone = all_digits 20 n; says = read_back 19 n (omega (arith, h)); no_leading_zero = no_leading_zero 19 n (omega (arith, h)) };
  nought = refl;
}
