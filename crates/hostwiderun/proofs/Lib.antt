-- What the exported call states has one result.
pub mod Settled
