-- Which inputs are listed.
-- Assumes nothing.
use borrow.Author.Tests.{le-ltb, lt-ltb}
use lib.ListN.{length}
use Rattle.constants.specs.Sizes.{longest_trace}
use Rattle.tracelisting.specs.TraceListing.{text_for}
use Rattle.tracelisting.specs.InputLength.{OfInputLength}

pub input_length : OfInputLength
unfolding text_for
input_length hung input = record { listed = λ l. rw (le-ltb longest_trace (length input) l); too_long = λ l. rw (lt-ltb longest_trace (length input) l) }
