-- the record at an offset of a trace
pub mod Record
-- records visited one after the other by that call
pub mod RecordWalk
-- a frame listed as text
pub mod List
-- where two frames or two memories differ
pub mod Compare
-- one result for each statement
pub mod Settled
