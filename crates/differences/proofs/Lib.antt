-- Lists in order, and what is said of all or one of a list.
pub mod InOrder
-- Lists of what is found place by place, and row by row.
pub mod Found
-- Where a run of a row begins, and how far it goes.
pub mod RowRuns
-- The differing runs are the only list that the order's rule allows.
pub mod FrameRule
-- The differing bytes are the only list that it allows.
pub mod MemoryRule
-- How long entries are, where each lies, how many there can be.
pub mod Entries
-- A list put into a list buffer, or too long for it.
pub mod Listed
-- The ways that a call can go: its number tells the way, and the way what is left.
pub mod Ways
-- The longest lists of all.
pub mod Longest
-- Each number exactly when, and how large the list buffer must be.
pub mod Given
-- What drawing leaves is never refused for a byte above 1.
pub mod DrawnFrames
-- One value stored at places side by side, and lists that begin alike.
pub mod Stores
-- The differing bytes put into the first memory give the second.
pub mod PutBytes
-- Runs put into the first frame give the second.
pub mod PutRuns
-- What is listed, put into the first, gives the second.
pub mod PutBack
-- So with what a reader finds in the list buffer.
pub mod ReadBack
-- Comparisons that are worked out.
pub mod Samples
-- What each call states has one result.
pub mod Settled
-- For the code: bytes passed, and whether one is above 1.
pub mod Above
-- For the code: what holds of the places passed.
pub mod Below
-- For the code: entries put one after the other.
pub mod PutEntries
-- For the code: a row walked from left to right.
pub mod AlongRow
-- For the code: rows walked one after the other.
pub mod ByRows
-- For the code: runs and bytes counted.
pub mod Counting
-- For the code: a page walked column by column.
pub mod AlongPage
-- For the code: rows as the iterator gives them, and chunks of rows.
pub mod Along
-- For the code: its entries are those stated.
pub mod Coded
