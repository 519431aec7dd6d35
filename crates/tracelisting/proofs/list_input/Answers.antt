-- `tracelisting::list_input` meets its contract: the test of the length chooses the text.
use native.Mathlib.Omega.{arith}
use lib.ListN.{length}
use borrow.Author.Tests.{lt-ltb, le-ltb}
use Rattle.constants.specs.Sizes.{longest_trace}
use Rattle.framelisting.specs.Ascii.{ascii}
use Rattle.tracelisting.specs.TraceListing.{text_for}
use Rattle.tracelisting.proofs.list_input.Goals as goal

pub returns-then-input-gt-LONGEST_TRACE : goal.returns-then-input-gt-LONGEST_TRACE
unfolding text_for ascii
returns-then-input-gt-LONGEST_TRACE c =
    let input = c.args.input.now in
    rw (lt-ltb longest_trace (length input) (omega arith)) c.put_notice.ensures

pub returns : goal.returns
unfolding text_for
returns c =
    let input = c.args.input.now in
    rw (le-ltb longest_trace (length input) (omega arith)) c.list_trace.ensures
