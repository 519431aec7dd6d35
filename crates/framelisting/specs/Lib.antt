-- words as bytes, and numbers in decimal
pub mod Ascii
pub mod Decimal
-- the lit places of a row, and their runs
pub mod Runs
-- the listing as text, of one chip's frame and of the wide one
pub mod Text
-- the whole outcome of either call
pub mod Listing
-- how the code's own functions put a piece of text
pub mod Put
-- the runs are the longest, left to right
pub mod LongestRuns
-- plain decimal, with no leading zero
pub mod PlainDecimal
-- equal listings are of equal frames
pub mod EqualListings
-- no listing is longer than 27,408 bytes, or 61,728 with the wide frame
pub mod LongestListing
-- what a buffer has then, by its length
pub mod LentBuffers
-- listings that are worked out
pub mod Samples
-- one result for each call's statement
pub mod Settled
-- how the code puts a piece after what is there
pub mod Puts
