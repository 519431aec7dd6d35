-- The record call visits the records of a trace's split.
pub mod RecordWalk
-- What each exported call states has one result.
pub mod Settled
-- a count as C is handed it
pub mod Handed
