-- a record's events are a stretch on the selected chips
pub mod TerminalStretches
-- a script's events one by one, and in a stretch
pub mod AppliedStretches
-- what a record's kind and payload are made of
pub mod TerminalHeaders
-- what events are refused with
pub mod TerminalRefusals
-- what one step does to the chip on a side
pub mod TerminalHeard
-- a run on what is lent: refused first, or played from the chips that are lent
pub mod WideRunOnLent
-- each chip over the events it was selected for
pub mod EachChip
-- what a run does as a whole
pub mod WideRunLaws
-- one chip alone: what is not selected stays
pub mod OneChipAlone
-- a run on what is accepted meets neither 1 nor 2
pub mod WideNotOneOrTwo
-- when a run gives each number, and what it leaves then
pub mod WideGivenRun
-- kinds 1 to 4: a trace of one chip, behind a record that selects it
pub mod AsNarrow
-- the events of a run by the calls of the wide bus; one event and its call
pub mod WideByCalls
-- when a run gives the number of an event, and what it leaves then
pub mod WideEventGiven
-- runs from power-on, computed
pub mod Samples
-- one result for each public call
pub mod Settled
-- one chip refuses with no 0
pub mod SideNeverZero
-- a record as one chip heeds it
pub mod Heeding
-- how the code heeds a record
pub mod HeedCode
-- what stands at an offset, for one chip
pub mod SideTurns
-- a trace as far as a limit, played from an offset on
pub mod SidePlays
-- the terminal's events by its two sides
pub mod TwoSides
-- a whole trace by the two sides
pub mod SidesOfTrace
-- what the events of a record are made of
pub mod SideRecords
-- bytes put one by one over the first ones of a list
pub mod Pasted
-- what a side leaves as it was
pub mod SideKeeps
-- a play by the two sides is the terminal's
pub mod RunBySides
-- how the code's run ends
pub mod WideRunCode
