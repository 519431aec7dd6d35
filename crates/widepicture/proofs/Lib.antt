-- rows one after the other, and a row that is written over
pub mod RowByRow
-- a row of one chip, drawn into its half
pub mod HalfRows
-- a frame of one shade
pub mod OneShade
-- what is asked first
pub mod Asked
-- each half is the frame of its chip
pub mod Halves
-- what the call comes to; demand 1 for drawing
pub mod WideDrawing
-- demand 3 for each half
pub mod WideDemand3
-- one outcome for each public call
pub mod Settled
