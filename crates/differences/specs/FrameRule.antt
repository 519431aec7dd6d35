-- Order 1's rule for two frames, in its own words, as a property of any list of runs; and that the call's list is the only one that it allows.
use Rattle.std.specs.Prelude.{ℕ, ◌≤◌, ◌<◌, ◌≡◌, ◌≢◌, ◌↔◌, ◌⊎◌, List}
use Rattle.constants.specs.Sizes.{width, frame_rows}
use Rattle.bus.specs.Bytes.{All}
use Rattle.picture.specs.Frame.{place_of}
use Rattle.differences.specs.Runs.{Run, runs_in, runs_of}
use Rattle.differences.specs.InOrder.{Some, InOrder}

-- Row by row, left to right: a run stands in a row above another's, or in the same row and left of it.
abbrev pub Before : Run → Run → Type 0
Before run other = (run.row < other.row) ⊎ ((run.row ≡ other.row) × (run.last < other.first))

-- Row p, column x is a place of the run.
abbrev pub Within : ℕ → ℕ → Run → Type 0
Within p x run = (p ≡ run.row) × (run.first ≤ x) × (x ≤ run.last)

-- Two frames f and g of h rows of w places.
module _ (w h : ℕ) (f g : List ℕ) where
  -- The run's places are places of the frame, side by side in one row, and all differ in the run's way.
  pub record Differing (run : Run) : Type 0 where
    pub row_in : run.row < h
    pub not_empty : run.first ≤ run.last
    pub last_in : run.last < w
    pub differs : run.in_first ≢ run.in_second
    pub first : (x : ℕ) → run.first ≤ x → x ≤ run.last → place_of w run.row x f ≡ run.in_first
    pub second : (x : ℕ) → run.first ≤ x → x ≤ run.last → place_of w run.row x g ≡ run.in_second

  -- The run is longest possible: such a run that has its places has no more.
  abbrev pub Longest : Run → Type 0
  Longest run = (longer : Run) → Differing longer → longer.row ≡ run.row → longer.first ≤ run.first → run.last ≤ longer.last → longer ≡ run

  -- The rule.
  pub record FrameRule (list : List Run) : Type 0 where
    -- row by row, left to right
    pub in_order : InOrder Before list
    -- every place of an entry differs in the entry's way
    pub differing : All Differing list
    -- no entry could be longer
    pub longest : All Longest list
    -- every differing place lies in one
    pub every : (p x : ℕ) → p < h → x < w → place_of w p x f ≢ place_of w p x g → Some (Within p x) list

-- For frames of any size; a place past the end of a list counts as 0.
pub record TheOnlyRuns : Type 0 where
  -- the runs of any two frames meet the rule
  pub meets : (w h : ℕ) (f g : List ℕ) → FrameRule w h f g (runs_in w h f g)
  -- and are the only list that does
  pub alone : (w h : ℕ) (f g : List ℕ) (list : List Run) → FrameRule w h f g list → list ≡ runs_in w h f g
  -- so the rule allows one list for two frames of this chip, the call's
  pub called : (f g : List ℕ) (list : List Run) → FrameRule width frame_rows f g list ↔ (list ≡ runs_of f g)
