-- What plain decimal is: the digits of a number, and no more than it needs.
use Rattle.std.specs.Prelude.{ℕ, ◌+◌, ◌-◌, ◌*◌, ◌^◌, ◌≤◌, ◌<◌, ◌≡◌, List, [], ◌∷◌, get_or}
use Rattle.framelisting.specs.Decimal.{decimal}

-- Bytes from the digit 0, 48, to the digit 9, 57.
abbrev pub Digits : List ℕ → Type 0
Digits [] = Unit {0}
Digits (d ∷ more) = (48 ≤ d) × (d ≤ 57) × Digits more

-- The number that digits say, after the number that the digits before them say.
abbrev pub value : ℕ → List ℕ → ℕ
value so [] = so
value so (d ∷ more) = value (so * 10 + (d - 48)) more

-- Each number of the machine in decimal.
pub record PlainDecimal (n : ℕ) : Type 0 where
  -- it is of digits alone
  pub alone : Digits (decimal n)
  -- which say the number
  pub says : value 0 (decimal n) ≡ n
  -- with no leading zero: only 0 begins with the digit 0
  pub no_leading_zero : get_or (decimal n) 0 0 ≡ 48 → n ≡ 0

pub record Plain : Type 0 where
  pub each : (n : ℕ) → n < 2 ^ 64 → PlainDecimal n
  -- 0 is one digit.
  pub nought : decimal 0 ≡ 48 ∷ []
