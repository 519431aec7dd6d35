-- whether a number is one of a list's
pub mod OneOf
-- the command table, and how a byte is looked up in it
pub mod Table
-- the bytes outside the table, and those that name no page
pub mod Others
-- the range of what a named command carries
pub mod Values
-- one result for each statement
pub mod Settled
