-- the four events
pub mod Events
-- the power state
pub mod PowerState
-- one result for each statement
pub mod Settled
