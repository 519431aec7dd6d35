-- What a listing leaves in a lent buffer, by the lengths of what is lent.
-- Assumes nothing.
use Prim.Native.Nat.{ℕ, ◌*◌, ◌≤◌, ◌<◌, ◌^◌}
use mathlib.Core.Path.{◌≡◌, refl}
use mathlib.Core.Bool.{Bool, true, false, cond, ◌||◌}
use mathlib.Core.List.{List}
use native.Mathlib.Omega.{arith}
use borrow.Author.Tests.{lt-ltb, le-ltb}
use lib.Dec.{ltb}
use lib.ListN.{length, drop}
use lib.Seq.{drop-append_seam}
use Rattle.constants.specs.Numbers.{too_short}
use Rattle.constants.specs.Sizes.{width, wide_width, frame_rows, frame_size, wide_frame_size, longest_listing, longest_wide_listing}
use Rattle.framelisting.specs.Text.{listing_across, listing_of, wide_listing_of}
use Rattle.framelisting.specs.Listing.{outcome, written, listed_across, listed, listed_wide}
use Rattle.framelisting.specs.LongestListing.{AtMost}
use Rattle.framelisting.specs.LentBuffers.{LentBuffers, OfLentBuffers}
use Rattle.framelisting.specs.Listing.{Listed}
use Rattle.framelisting.proofs.LongestListing.{longest_listing_lem}

module _ (w number offset : ℕ) (frame text : List ℕ) where
  pub frame_short : length frame < frame_rows * w → listed_across w number offset frame text ≡ outcome (Listed.Refused too_short) text
  unfolding listed_across
  frame_short h = rw (lt-ltb (length frame) (frame_rows * w) h)

  pub text_short : frame_rows * w ≤ length frame → length text < length (listing_across w number offset frame) → listed_across w number offset frame text ≡ outcome (Listed.Refused too_short) text
  unfolding listed_across
  text_short h k = rw (le-ltb (length frame) (frame_rows * w) h, lt-ltb (length text) (length (listing_across w number offset frame)) k)

  pub both_long : frame_rows * w ≤ length frame → length (listing_across w number offset frame) ≤ length text → listed_across w number offset frame text ≡ written (listing_across w number offset frame) text
  unfolding listed_across
  both_long h k = rw (le-ltb (length frame) (frame_rows * w) h, le-ltb (length text) (length (listing_across w number offset frame)) k)

  -- no byte past the text changes, and none at all where the call is refused
  past : drop (length (listing_across w number offset frame)) (listed_across w number offset frame text).text ≡ drop (length (listing_across w number offset frame)) text
  unfolding listed_across written
  past = by (ltb (length frame) (frame_rows * w) || ltb (length text) (length (listing_across w number offset frame)))
    where
      whole : List ℕ
      whole = listing_across w number offset frame

      by : (t : Bool) → drop (length whole) (cond t (outcome (Listed.Refused too_short) text) (written whole text)).text ≡ drop (length whole) text
      by true = refl
      by false = drop-append_seam whole (drop (length whole) text)

  of_lent : (longest : ℕ) → AtMost w longest → LentBuffers w longest number offset frame text
  of_lent longest most = record {
    frame_short = frame_short;
    text_short = text_short;
    both_long = both_long;
    always_enough = λ n o h k. both_long h (omega (arith, most number offset frame n o, k));
    past = past;
  }

pub of_lent_buffers : OfLentBuffers
of_lent_buffers = record {
  narrow = λ number offset frame text. of_lent width number offset frame text longest_listing longest_listing_lem.narrow.at_most;
  wide = λ number offset frame text. of_lent wide_width number offset frame text longest_wide_listing longest_listing_lem.wide.at_most;
}

-- a buffer of 27,408 bytes is enough for one chip's frame
pub always_enough : (number offset : ℕ) (frame text : List ℕ) → number < 256 → offset < 2 ^ 64 → frame_size ≤ length frame → longest_listing ≤ length text → listed number offset frame text ≡ written (listing_of number offset frame) text
unfolding listing_of
always_enough number offset frame text = (of_lent_buffers.narrow number offset frame text).always_enough

-- and one of 61,728 for the wide one
pub always_enough_wide : (number offset : ℕ) (frame text : List ℕ) → number < 256 → offset < 2 ^ 64 → wide_frame_size ≤ length frame → longest_wide_listing ≤ length text → listed_wide number offset frame text ≡ written (wide_listing_of number offset frame) text
unfolding wide_listing_of
always_enough_wide number offset frame text = (of_lent_buffers.wide number offset frame text).always_enough
