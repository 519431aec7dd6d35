-- What document 01 says of a row's runs, whatever way they are found.
use Rattle.std.specs.Prelude.{ℕ, ◌+◌, ◌≤◌, ◌≡◌, Bool, true, false, ◌&&◌, ◌||◌, List, [], ◌∷◌, leb, get_or}
use Rattle.framelisting.specs.Runs.{Run, lit, any_lit, runs}

-- Place x is in the run.
abbrev pub inside : Run → ℕ → Bool
inside run x = leb run.first x && leb x run.last

-- Place x is in one of the runs.
unfoldable pub covered : List Run → ℕ → Bool
covered [] x = false
covered (run ∷ more) x = inside run x || covered more x

-- Places x and y are in one and the same run.
unfoldable pub together : List Run → ℕ → ℕ → Bool
together [] x y = false
together (run ∷ more) x y = (inside run x && inside run y) || together more x y

-- The runs stand left to right from place x on, with a place or more between each and the next.
abbrev pub Apart : ℕ → List Run → Type 0
Apart x [] = Unit {0}
Apart x (run ∷ more) = (x ≤ run.first) × (run.first ≤ run.last) × Apart (run.last + 2) more

-- The longest runs of a row, left to right: they cover its lit places and no other, and stand apart, so that none could be longer.
pub record LongestRuns (row : List ℕ) (list : List Run) : Type 0 where
  pub exact : (x : ℕ) → covered list x ≡ lit (get_or row x 0)
  pub apart : Apart 0 list

-- The runs that a line has.
pub record RunsOfLines : Type 0 where
  -- they are the row's longest runs, left to right
  pub longest : (row : List ℕ) → LongestRuns row (runs row)
  -- and no other list of runs is
  pub alone : (row : List ℕ) (list : List Run) → LongestRuns row list → list ≡ runs row
  -- lit places side by side are in one run
  pub joined : (row : List ℕ) (x y : ℕ) → x ≤ y → ((p : ℕ) → x ≤ p → p ≤ y → lit (get_or row p 0) ≡ true) → together (runs row) x y ≡ true
  -- a row has no run where it has no lit place, and else one or more
  pub none : (row : List ℕ) → any_lit row ≡ false → runs row ≡ []
  pub some : (row : List ℕ) → any_lit row ≡ true → runs row ≡ [] → ⊥
