-- `framelisting::list_wide` meets its contract by that of the call below it: 61,728 bytes are enough for any listing of the wide frame.
use lib.Dec.{lit<}
use Rattle.framelisting.proofs.LongestListing.{longest_listing_lem}
use Rattle.framelisting.proofs.list_wide.Goals as goal

pub list_across-requires : goal.list_across-requires
list_across-requires c = record { width_bound = lit< tt; at_most = longest_listing_lem.wide.at_most }
