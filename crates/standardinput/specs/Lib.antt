-- what a count of bytes at the start of a buffer is
pub mod Counts
-- what can be said of reading
pub mod Input
