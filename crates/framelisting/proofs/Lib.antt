-- For the code: pieces of text put one after the other.
pub mod PutPieces
-- For the code: the rows of a frame one after the other.
pub mod RowsOfFrame
-- For the code: a row walked from left to right.
pub mod AlongRow
-- Numbers in decimal, step by step and read back.
pub mod PlainDecimal
-- The runs are the longest, left to right, and no other list of runs is.
pub mod LongestRuns
-- How long each part of the text is.
pub mod LengthsOfText
-- No listing is longer than 27,408 bytes, or 61,728 with the wide frame, and one is that long.
pub mod LongestListing
-- What a listing leaves in a lent buffer.
pub mod LentBuffers
-- Equal listings are of equal frames.
pub mod EqualListings
-- Listings that are worked out.
pub mod Samples
-- What each call states has one result.
pub mod Settled
-- numbers of up to three digits
pub mod SmallNumbers
