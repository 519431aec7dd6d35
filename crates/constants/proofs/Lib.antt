-- Statements that are one equation have one result.
pub mod Settles
-- Each refusal has a number of its own.
pub mod Refusals
-- What each public call states has one result.
pub mod Settled
