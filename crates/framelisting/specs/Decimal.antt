-- Numbers in plain decimal.
use Rattle.std.specs.Prelude.{ℕ, zero, suc, ◌+◌, ◌/◌, ◌%◌, cond, List, [], ◌∷◌, ◌++◌, ltb}

-- The digits of n, so many at most: where n is 10 or more those of n / 10, and then the last one. 48 is the digit 0.
unfoldable pub digits : ℕ → ℕ → List ℕ
digits zero n = []
digits (suc more) n = cond (ltb n 10) [] (digits more (n / 10)) ++ ((48 + n % 10) ∷ [])

-- A number in decimal. No number of the machine has more than 20 digits.
unfoldable pub decimal : ℕ → List ℕ
decimal n = digits 20 n
