-- The lit places of a row, and their longest runs.
use Rattle.std.specs.Prelude.{ℕ, zero, suc, ◌+◌, Bool, true, false, ◌||◌, List, [], ◌∷◌}

-- A byte of the frame: 0 dark, 1 lit. Any other byte counts as lit too.
unfoldable pub lit : ℕ → Bool
lit zero = false
lit (suc b) = true

-- The row has a lit place.
unfoldable pub any_lit : List ℕ → Bool
any_lit [] = false
any_lit (b ∷ row) = lit b || any_lit row

-- A run of lit places, by its first and its last.
pub record Run : Type 0 where
  pub first : ℕ
  pub last : ℕ

-- How many places the row begins with that are lit.
unfoldable pub leading : List ℕ → ℕ
leading [] = 0
leading (zero ∷ row) = 0
leading (suc b ∷ row) = suc (leading row)

-- The runs of a row whose first place is x, after some places that are passed over: a run begins at the first lit place, goes on as long as lit
-- places follow, and is then passed over.
unfoldable pub runs_from : ℕ → ℕ → List ℕ → List Run
runs_from x passed [] = []
runs_from x (suc passed) (b ∷ row) = runs_from (suc x) passed row
runs_from x zero (zero ∷ row) = runs_from (suc x) zero row
runs_from x zero (suc b ∷ row) = record { first = x; last = x + leading row } ∷ runs_from (suc x) (leading row) row

-- The longest runs of a row, left to right.
unfoldable pub runs : List ℕ → List Run
runs row = runs_from 0 0 row
