-- 1. Definitions.
-- the wide terminal as a machine that plays traces
pub mod Terminal
-- the run
pub mod WideRun
-- 2. What is proved of them.
-- each chip over the events it was selected for
pub mod EachChip
-- what a run does as a whole
pub mod WideRunLaws
-- when a run gives each number, and what it leaves then
pub mod WideGivenRun
-- one chip alone: what is not selected stays
pub mod OneChipAlone
-- kinds 1 to 4: a trace of one chip, behind a record that selects it
pub mod AsNarrow
-- the events of a run by the calls of the wide bus; one event and its call
pub mod WideByCalls
-- when a run gives the number of an event, and what it leaves then
pub mod WideEventGiven
-- runs from power-on, computed
pub mod Samples
-- one result for each public call
pub mod Settled
-- 3. What functions within the crate state, and no other crate cites.
-- one chip by itself, up to an offset
pub mod Sides
-- what a record is to one chip
pub mod Heeding
-- what the code's type of a played trace stands for
pub mod Code
