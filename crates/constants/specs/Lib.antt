-- the sizes
pub mod Sizes
-- the refusal numbers
pub mod Numbers
-- what it is for a statement to have one result
pub mod Settles
-- the refusals as code names them, and their numbers
pub mod Refusals
-- one result for each public call
pub mod Settled
