-- what is found row by row
pub mod ByRows
-- the differing runs of two frames
pub mod Runs
-- the differing bytes of two memories
pub mod Bytes
-- an entry as bytes
pub mod Entries
-- what a comparison answers
pub mod Compared
-- the whole outcome of each call
pub mod Compare
-- the code's own entries
pub mod Found
-- their laws
pub mod Laws
-- what the code's own functions state
pub mod Put
-- lists in order, and one of a list
pub mod InOrder
-- the order's rule for frames, and that the runs are the only list it allows
pub mod FrameRule
-- the same for memories
pub mod MemoryRule
-- each number exactly when, and how large the buffer must be
pub mod Given
-- what is listed, put into the first, gives the second
pub mod PutBack
-- so with what a reader finds in the list buffer
pub mod ReadBack
-- what drawing leaves never meets 12
pub mod DrawnFrames
-- comparisons that are worked out
pub mod Samples
-- one result for each call's statement
pub mod Settled
