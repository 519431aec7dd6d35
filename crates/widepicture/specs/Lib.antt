-- 1. Definitions.
-- two frames side by side, and the halves
pub mod WideFrame
-- the call that draws
pub mod WideDraw
-- what registers tell of a whole frame
pub mod OneShade
-- 2. Laws.
-- each half is the frame of its chip
pub mod Halves
-- what the call comes to; demand 1 for drawing
pub mod WideDrawing
-- demand 3 for each half
pub mod WideDemand3
-- one outcome for each public call
pub mod Settled
