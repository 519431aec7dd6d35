-- what a row of the frame shows
pub mod Shown
-- the three countings of rows; scan, start line and columns over numbers
pub mod Scan
-- the numbers that this chip's scan goes by
pub mod Rows
-- what each place shows, and the frame
pub mod Frame
-- for functions inside the crate: the whole frame at once
pub mod Upright
-- the call that draws
pub mod Draw
-- the call that draws one row
pub mod DrawLine
-- what the call and its frame come to; demand 1 for drawing
pub mod Drawing
-- the rules of the frame, for any number of rows in use
pub mod FrameRules
-- Order 2: where the rows in use are
pub mod CentredBand
-- Order 3: both directions turned
pub mod HalfTurn
-- one outcome for each public call
pub mod Settled
-- what drawing does not ask
pub mod Ignored
-- demand 3
pub mod Demand3
-- Order 3: demand 3 speaks of either start
pub mod FullAtStart
