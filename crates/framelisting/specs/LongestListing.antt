-- No listing is longer than 27,408 bytes, or 61,728 with the wide frame, and one is that long.
use Rattle.std.specs.Prelude.{ℕ, zero, suc, ◌-◌, ◌/◌, ◌^◌, ◌≤◌, ◌<◌, ◌≡◌, List, [], ◌∷◌, ◌++◌, length}
use Rattle.constants.specs.Sizes.{width, wide_width, frame_rows, longest_listing, longest_wide_listing}
use Rattle.framelisting.specs.Text.{listing_across}

-- So many places lit and so many dark, by turns.
abbrev pub turns : ℕ → List ℕ
turns zero = []
turns (suc n) = 1 ∷ 0 ∷ turns n

-- So many rows w wide, w even, of lit and dark places by turns.
abbrev pub striped : ℕ → ℕ → List ℕ
striped w zero = []
striped w (suc n) = turns (w / 2) ++ striped w n

-- No listing of any number and offset that the call takes, and any frame w wide, is longer.
abbrev pub AtMost : ℕ → ℕ → Type 0
AtMost w longest = (number offset : ℕ) (frame : List ℕ) → number < 256 → offset < 2 ^ 64 → length (listing_across w number offset frame) ≤ longest

-- The longest listing of a frame w wide.
pub record Longest (w longest : ℕ) : Type 0 where
  pub at_most : AtMost w longest
  -- of the largest number and offset, and a striped frame
  pub reached : length (listing_across w 255 (2 ^ 64 - 1) (striped w frame_rows)) ≡ longest

pub record LongestListing : Type 0 where
  pub narrow : Longest width longest_listing
  pub wide : Longest wide_width longest_wide_listing
