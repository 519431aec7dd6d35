-- The call on a lent frame and buffer: the whole outcome as one function of what is lent.
use Rattle.std.specs.Prelude.{ℕ, ◌*◌, cond, ◌||◌, List, ◌++◌, Result, Ok, Err, ltb, length, drop}
use Rattle.constants.specs.Sizes.{width, wide_width, frame_rows}
use Rattle.constants.specs.Numbers.{too_short}
use Rattle.constants.specs.Refusals.{number_of_refusal}
use Rattle.constants.specs.declared.refusal.Refusal.{Refusal}
use Rattle.framelisting.specs.Text.{listing_across}

-- What a listing answers: the text's length, or a refusal's number.
pub data Listed : Type 0 where
  Written : ℕ → Listed
  Refused : ℕ → Listed

-- The same, of what the code's call answers.
abbrev pub listed_of : Result ℕ Refusal → Listed
listed_of (Ok size) = Listed.Written size
listed_of (Err refusal) = Listed.Refused (number_of_refusal refusal)

-- What the call answers, and what the buffer holds then.
pub record Outcome : Type 0 where
  pub answer : Listed
  pub text : List ℕ

abbrev pub outcome : Listed → List ℕ → Outcome
outcome answer text = record { answer = answer; text = text }

-- The text at the start of the buffer, with its length; the bytes past it stay.
unfoldable pub written : List ℕ → List ℕ → Outcome
written listing text = outcome (Listed.Written (length listing)) (listing ++ drop (length listing) text)

-- A frame shorter than 65 rows w wide, or a buffer shorter than the text, is refused, and nothing is written.
unfoldable pub listed_across : ℕ → ℕ → ℕ → List ℕ → List ℕ → Outcome
listed_across w number offset frame text =
    cond (ltb (length frame) (frame_rows * w) || ltb (length text) (length (listing_across w number offset frame)))
    (outcome (Listed.Refused too_short) text)
    (written (listing_across w number offset frame) text)

-- One chip's frame, of 8,580 bytes.
abbrev pub listed : ℕ → ℕ → List ℕ → List ℕ → Outcome
listed number offset frame text = listed_across width number offset frame text

-- The wide frame, of 17,160 bytes.
abbrev pub listed_wide : ℕ → ℕ → List ℕ → List ℕ → Outcome
listed_wide number offset frame text = listed_across wide_width number offset frame text
