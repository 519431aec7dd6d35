-- Order 1, two frames: the runs of differing places, row by row, left to right.
use Rattle.std.specs.Prelude.{ℕ, zero, suc, ◌+◌, Bool, false, ◌&&◌, not, cond, List, [], ◌∷◌, eqb, get_or}
use Rattle.constants.specs.Sizes.{width, frame_rows}
use Rattle.differences.specs.ByRows.{by_rows}

-- A run: its row, its first and last column, and what its places hold in the first frame and in the second, 0 dark or 1 lit.
pub record Run : Type 0 where
  pub row : ℕ
  pub first : ℕ
  pub last : ℕ
  pub in_first : ℕ
  pub in_second : ℕ

-- Place x differs between a row of the first frame and the same row of the second.
abbrev pub differs : List ℕ → List ℕ → ℕ → Bool
differs a b x = not (eqb (get_or a x 0) (get_or b x 0))

-- Place x and the one after it hold the same in the first frame, and the same in the second: where they differ, they do so in the same way.
unfoldable pub alike : List ℕ → List ℕ → ℕ → Bool
alike a b x = eqb (get_or a (suc x) 0) (get_or a x 0) && eqb (get_or b (suc x) 0) (get_or b x 0)

-- A place goes on with the one before it, in the same row and the same way; the first of a row goes on with none.
unfoldable pub goes_on : List ℕ → List ℕ → ℕ → Bool
goes_on a b zero = false
goes_on a b (suc x) = alike a b x

-- A run begins at place x: it differs, and does not go on with the place before it.
unfoldable pub begins : List ℕ → List ℕ → ℕ → Bool
begins a b x = differs a b x && not (goes_on a b x)

-- How many of the n places after x go on with it, one after the other.
unfoldable pub more : List ℕ → List ℕ → ℕ → ℕ → ℕ
more a b zero x = 0
more a b (suc n) x = cond (alike a b x) (suc (more a b n (suc x))) 0

-- The run of row p that begins at place x, where n places come after it.
abbrev pub run_at : ℕ → List ℕ → List ℕ → ℕ → ℕ → Run
run_at p a b n x = record { row = p; first = x; last = x + more a b n x; in_first = get_or a x 0; in_second = get_or b x 0 }

-- The runs that begin at the last n places of a row, from x on, left to right.
unfoldable pub runs_from : ℕ → List ℕ → List ℕ → ℕ → ℕ → List Run
runs_from p a b zero x = []
runs_from p a b (suc n) x = cond (begins a b x) (run_at p a b n x ∷ runs_from p a b n (suc x)) (runs_from p a b n (suc x))

-- The runs of row p, a row of w places.
abbrev pub row_runs : ℕ → ℕ → List ℕ → List ℕ → List Run
row_runs w p a b = runs_from p a b w 0

-- The runs of two frames of h rows of w places, row by row.
unfoldable pub runs_in : ℕ → ℕ → List ℕ → List ℕ → List Run
runs_in w h f g = by_rows w (row_runs w) f g h 0

-- The runs of two frames of this chip.
abbrev pub runs_of : List ℕ → List ℕ → List Run
runs_of = runs_in width frame_rows
