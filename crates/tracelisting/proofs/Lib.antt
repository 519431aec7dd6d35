-- What start, run, draw and list leave one after the other is the listing of the trace.
pub mod ListedByCalls
-- The frame that is listed is the one of the registers and memory that the run leaves.
pub mod FinalFrame
-- Which inputs are listed.
pub mod InputLength
-- Document 01's own trace prints what it says, from each start.
pub mod Sample
-- What a listing leaves in a lent buffer.
pub mod LentBuffer
-- Whether a text begins with a word.
pub mod Beginning
-- What each call states has one result.
pub mod Settled
-- A column of a frame by what each of its places shows, for the table that follows.
pub mod FrameColumns
-- The definitions beside the second program, on a spread of cases.
pub mod Spread
