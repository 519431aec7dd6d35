-- 1. The bytes of a trace, whatever they are played on.
-- what stands at an offset, by the tests that tell it
pub mod WhatStands
-- the split into records: proves specs/SplitLaws
pub mod SplitLaws
-- the reader visits the records of the split: proves specs/ReaderWalk
pub mod ReaderWalk
-- 2. A trace played over any machine.
-- played is what the events give one by one
pub mod OneByOne
-- from a later offset on, and by what stands there
pub mod PlayedFurther
-- whole records followed by more
pub mod PlayedJoined
-- how it ends, after whole records that are taken
pub mod PlayedStops
-- what each event keeps is kept
pub mod PlayedKeeps
-- from related states that meet each event alike
pub mod PlayedAlike
-- the bytes of a payload, one after the other
pub mod PayloadBytes
-- proves specs/AnyMachine
pub mod AnyMachine
-- 3. The chip as that machine.
-- what a record of each kind stands for
pub mod ChipKinds
-- what headers and events are refused with
pub mod ChipRefusals
-- what each event keeps
pub mod ChipKeeps
-- no event meets 1 or 2, whatever numbers a trace holds
pub mod ChipNotOneOrTwo
-- a record's events are a stretch on the bus: proves specs/Stretched
pub mod RecordsAreStretches
-- the start is seen in the directions alone: proves specs/EitherStart
pub mod EitherStart
-- 4. The run on a lent state and memory.
-- refused first, or played from the image's registers; what it leaves
pub mod RunOnLent
-- it is what the event calls give one by one
pub mod RunByCalls
-- proves specs/RunLaws
pub mod RunLaws
-- a run of one record: proves specs/OneRecord
pub mod OneRecord
-- how it stops
pub mod RunStops
-- 1 and 2 exactly when
pub mod GivenAsked
-- 0 exactly when
pub mod GivenZero
-- 3 to 7, 10 and 15: an event is refused
pub mod GivenEvent
-- 3 and 15 exactly when
pub mod GivenFirst
-- 8 and 9 exactly when; proves specs/Given
pub mod Given
-- samples, by computing: proves specs/Samples
pub mod Samples
-- 5. The code.
-- how the code's run ends
pub mod RunCode
-- one result for each public call: proves specs/Settled
pub mod Settled
