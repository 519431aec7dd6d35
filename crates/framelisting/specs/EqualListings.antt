-- What a listing tells: two that are equal are of one width, of one number, of one offset where the run stopped, and of one frame.
use Rattle.std.specs.Prelude.{ℕ, ◌+◌, ◌*◌, ◌^◌, ◌≤◌, ◌<◌, ◌≡◌, List, length, get_or}
use Rattle.constants.specs.Sizes.{frame_rows}
use Rattle.constants.specs.Numbers.{taken}
use Rattle.framelisting.specs.Runs.{lit}
use Rattle.framelisting.specs.Text.{listing_across}

-- A frame w wide as it is drawn: 65 rows, each byte 0 dark or 1 lit.
pub record AsDrawn (w : ℕ) (frame : List ℕ) : Type 0 where
  pub size : length frame ≡ frame_rows * w
  pub places : (i : ℕ) → get_or frame i 0 ≤ 1

-- What two listings tell that are equal.
pub record Told (w v m n o u : ℕ) (f g : List ℕ) : Type 0 where
  -- the widths are one
  pub across : w ≡ v
  -- the numbers are one
  pub number : m ≡ n
  -- the offsets are one, where the run stopped
  pub offset : (m ≡ taken → ⊥) → o ≡ u
  -- the same places are lit
  pub places : (p x : ℕ) → p < frame_rows → x < w → lit (get_or f (p * w + x) 0) ≡ lit (get_or g (p * w + x) 0)
  -- frames as they are drawn are equal
  pub frame : AsDrawn w f → AsDrawn v g → f ≡ g

-- For all widths, numbers and offsets of the machine, and all frames: one chip's and the wide one among them.
abbrev pub EqualListings : Type 0
EqualListings = (w v m n o u : ℕ) (f g : List ℕ) → w < 2 ^ 64 → v < 2 ^ 64 → m < 2 ^ 64 → n < 2 ^ 64 → o < 2 ^ 64 → u < 2 ^ 64 → listing_across w m o f ≡ listing_across v n u g → Told w v m n o u f g
