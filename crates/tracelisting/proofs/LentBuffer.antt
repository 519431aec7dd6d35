-- What `list_input` leaves in a lent buffer, by its length.
-- Assumes nothing.
use mathlib.Core.Path.{◌≡◌, refl, ◌∙◌, ap}
use mathlib.Core.Bool.{Bool, true, false, cond}
use mathlib.Core.List.{List, ◌++◌}
use Prim.Native.Nat.{ℕ, ◌≤◌}
use native.Mathlib.Omega.{arith}
use borrow.Author.Tests.{lt-ltb, le-ltb}
use lib.Dec.{ltb}
use lib.ListN.{length, drop, length-append}
use lib.Seq.{drop-append_seam}
use Rattle.constants.specs.Sizes.{longest_listing}
use Rattle.tracelisting.specs.TraceListing.{text_for, printed, printed_of}
use Rattle.tracelisting.specs.LentBuffer.{OfLentBuffer}

past : (whole text : List ℕ) → drop (length whole) (printed_of whole text).text ≡ drop (length whole) text
unfolding printed_of
past whole text = by (ltb (length text) longest_listing)
  where
    by : (t : Bool) → drop (length whole) (cond t (printed 0 text) (printed (length whole) (whole ++ drop (length whole) text))).text ≡ drop (length whole) text
    by true = refl
    by false = drop-append_seam whole (drop (length whole) text)

-- the length that is answered is within the buffer
pub within_text : (whole text text' : List ℕ) (size : ℕ) → printed size text' ≡ printed_of whole text → size ≤ length text'
unfolding printed_of
within_text whole text text' size e = by (ltb (length text) longest_listing) e
  where
    by : (t : Bool) → printed size text' ≡ cond t (printed 0 text) (printed (length whole) (whole ++ drop (length whole) text)) → size ≤ length text'
    by true p = omega (arith, ap (λ o. o.size) p)
    by false p = omega (arith, ap (λ o. o.size) p, ap (λ o. length o.text) p ∙ length-append whole (drop (length whole) text))

pub of_lent_buffer : OfLentBuffer
unfolding printed_of
of_lent_buffer hung input text = record {
  short = λ h. rw (lt-ltb (length text) longest_listing h);
  long = λ h. rw (le-ltb (length text) longest_listing h);
  within = within_text (text_for hung input) text _ _ refl;
  past = past (text_for hung input) text;
}
