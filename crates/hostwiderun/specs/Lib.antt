-- one result for the exported call
pub mod Settled
