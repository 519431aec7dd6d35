-- `tracelisting::put_notice` meets its contract: the line stands at the start, and the rest is as it was.
use borrow.Author.Tests.{lt-ltb, le-ltb}
use Rattle.tracelisting.specs.TraceListing.{printed_of}
use Rattle.tracelisting.proofs.put_notice.Goals as goal

pub returns-then-text-lt-LONGEST_LISTING : goal.returns-then-text-lt-LONGEST_LISTING
unfolding printed_of
returns-then-text-lt-LONGEST_LISTING c = rw (lt-ltb _ _ c.if-text-lt-LONGEST_LISTING.true)

pub returns : goal.returns
unfolding printed_of
returns c = rw (le-ltb _ _ c.if-text-lt-LONGEST_LISTING.false, c.copy_from_slice.ensures.after)
