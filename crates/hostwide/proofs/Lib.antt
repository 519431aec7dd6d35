-- where the part that the page call hands back lies
pub mod PagePlace
-- the page call by the tests of the code
pub mod PageCode
-- the byte and the dummy mark of a read
pub mod ReadBytes
-- calls and pages as C is handed them, computed
pub mod Samples
-- one result for each exported call
pub mod Settled
-- a count as C is handed it
pub mod Handed
