-- 1. What the contracts cite.
-- bytes split into records
pub mod Records
-- what stands first among bytes, as the code has it
pub mod Front
-- records played over any machine
pub mod Play
-- the chip as that machine
pub mod Kinds
-- the run on a lent state and memory
pub mod Run
-- what the code's own types stand for
pub mod Code
-- 2. What is proved of them.
-- the split, whatever it is played on
pub mod SplitLaws
-- the reader visits the records of the split
pub mod ReaderWalk
-- the events of a trace one by one: what playing is compared with
pub mod OneByOne
-- playing, over any machine
pub mod AnyMachine
-- a record's events are a stretch on the bus
pub mod RecordsAreStretches
-- the events of a trace by the bus's own calls: what a run is compared with
pub mod ByCalls
-- when a run gives each number, and what it leaves then
pub mod Given
-- what a run does as a whole
pub mod RunLaws
-- a run of one record, by its kind
pub mod OneRecord
-- the start is seen in the two directions alone
pub mod EitherStart
-- runs from power-on, computed
pub mod Samples
-- one result for each public call
pub mod Settled
