-- `framelisting::list` meets its contract by that of the call below it: 27,408 bytes are enough for any listing of one chip's frame.
use lib.Dec.{lit<}
use Rattle.framelisting.proofs.LongestListing.{longest_listing_lem}
use Rattle.framelisting.proofs.list.Goals as goal

pub list_across-requires : goal.list_across-requires
list_across-requires c = record { width_bound = lit< tt; at_most = longest_listing_lem.narrow.at_most }
