-- What a listing leaves in a lent buffer, by the lengths of what is lent.
use Rattle.std.specs.Prelude.{ℕ, ◌*◌, ◌^◌, ◌≤◌, ◌<◌, ◌≡◌, List, length, drop}
use Rattle.constants.specs.Numbers.{too_short}
use Rattle.constants.specs.Sizes.{width, wide_width, frame_rows, longest_listing, longest_wide_listing}
use Rattle.framelisting.specs.Text.{listing_across}
use Rattle.framelisting.specs.Listing.{outcome, written, listed_across}
use Rattle.framelisting.specs.Listing.{Listed}

-- A frame w wide, whose longest listing has so many bytes.
pub record LentBuffers (w longest number offset : ℕ) (frame text : List ℕ) : Type 0 where
  -- a frame that is too short is refused 1, and the buffer stays as it was
  pub frame_short : length frame < frame_rows * w → listed_across w number offset frame text ≡ outcome (Listed.Refused too_short) text
  -- so is a buffer that is shorter than the text
  pub text_short : frame_rows * w ≤ length frame → length text < length (listing_across w number offset frame) → listed_across w number offset frame text ≡ outcome (Listed.Refused too_short) text
  -- any other buffer has the whole text at its start
  pub both_long : frame_rows * w ≤ length frame → length (listing_across w number offset frame) ≤ length text → listed_across w number offset frame text ≡ written (listing_across w number offset frame) text
  -- a buffer for the longest listing is enough for any frame, number and offset
  pub always_enough : number < 256 → offset < 2 ^ 64 → frame_rows * w ≤ length frame → longest ≤ length text → listed_across w number offset frame text ≡ written (listing_across w number offset frame) text
  -- bytes past the text never change
  pub past : drop (length (listing_across w number offset frame)) (listed_across w number offset frame text).text ≡ drop (length (listing_across w number offset frame)) text

-- For all that is lent, with one chip's frame, where 27,408 bytes are always enough, and with the wide one, where 61,728 are.
pub record OfLentBuffers : Type 0 where
  pub narrow : (number offset : ℕ) (frame text : List ℕ) → LentBuffers width longest_listing number offset frame text
  pub wide : (number offset : ℕ) (frame text : List ℕ) → LentBuffers wide_width longest_wide_listing number offset frame text
