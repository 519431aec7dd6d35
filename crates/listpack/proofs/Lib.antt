-- Where a whole entry ends.
pub mod Entries
-- The start that an entry's name asks for: proves specs/Pack `HungBy`.
pub mod NamedStart
