-- the twelve sample events, over the meanings
pub mod Samples
-- the same of the calls
pub mod SamplesByCalls
