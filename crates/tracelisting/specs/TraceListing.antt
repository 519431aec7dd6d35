-- Document 01, the listing program: from a trace to the text that is printed for it.
use Rattle.std.specs.Prelude.{ℕ, cond, List, ◌++◌, ltb, length, drop, replicate}
use Rattle.constants.specs.Sizes.{frame_size, longest_trace, longest_listing}
use Rattle.bus.specs.declared.start.Hung.{Hung}
use Rattle.trace.specs.Run.{Ran}
use Rattle.trace.specs.EitherStart.{ran_from_start}
use Rattle.picture.specs.Draw.{draw}
use Rattle.framelisting.specs.Ascii.{ascii}
use Rattle.framelisting.specs.Text.{listing_of}

-- The frame after a run, drawn over a dark one.
unfoldable pub frame_after : Ran → List ℕ
frame_after ran = (draw ran.state ran.memory (replicate frame_size 0)).frame

-- The listing of a trace: the frame that its run leaves, after the number and the offset of a run that stopped.
unfoldable pub listing_of_trace : Hung → List ℕ → List ℕ
listing_of_trace hung trace = let ran = ran_from_start hung trace in listing_of ran.stop.number ran.stop.offset (frame_after ran)

-- What is printed for an input: its listing; for a longer input than 65,536 bytes only one line.
unfoldable pub text_for : Hung → List ℕ → List ℕ
text_for hung input = cond (ltb longest_trace (length input)) (ascii "input too long\n") (listing_of_trace hung input)

-- The text's length that the call answers, and the buffer that it leaves.
pub record Printed : Type 0 where
  pub size : ℕ
  pub text : List ℕ

abbrev pub printed : ℕ → List ℕ → Printed
printed answer later = record { size = answer; text = later }

-- A text at the start of the buffer, the bytes past it as they were; nothing in a buffer that is too short for some listing.
unfoldable pub printed_of : List ℕ → List ℕ → Printed
printed_of whole text = cond (ltb (length text) longest_listing) (printed 0 text) (printed (length whole) (whole ++ drop (length whole) text))
