-- What `list_input` leaves in a lent buffer, by its length.
use Rattle.std.specs.Prelude.{ℕ, ◌≤◌, ◌<◌, ◌≡◌, List, ◌++◌, length, drop}
use Rattle.constants.specs.Sizes.{longest_listing}
use Rattle.bus.specs.declared.start.Hung.{Hung}
use Rattle.tracelisting.specs.TraceListing.{text_for, printed, printed_of}

pub record LentBuffer (hung : Hung) (input text : List ℕ) : Type 0 where
  -- a buffer that is too short for some listing has length 0 as its answer, and stays as it was
  pub short : length text < longest_listing → printed_of (text_for hung input) text ≡ printed 0 text
  -- any other has the text at its start, with the text's length as the answer
  pub long : longest_listing ≤ length text → printed_of (text_for hung input) text ≡ printed (length (text_for hung input)) (text_for hung input ++ drop (length (text_for hung input)) text)
  -- the length that is answered is within the buffer
  pub within : (printed_of (text_for hung input) text).size ≤ length (printed_of (text_for hung input) text).text
  -- bytes past the text never change
  pub past : drop (length (text_for hung input)) (printed_of (text_for hung input) text).text ≡ drop (length (text_for hung input)) text

-- For all that is lent.
abbrev pub OfLentBuffer : Type 0
OfLentBuffer = (hung : Hung) (input text : List ℕ) → LentBuffer hung input text
