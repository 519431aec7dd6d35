-- 1. Definitions.
-- the place of each register in the image
pub mod Places
-- the image, the ranges, power-on, one register set
pub mod Registers
-- where a byte lies, what of it is kept, the column after it
pub mod Memory
-- what an event answers and a call replies, and what the results of code stand for
pub mod Answer
-- what each of the four events answers, and the memory that a write leaves
pub mod Events
-- the chip as a machine: registers and memory, a step for each event
pub mod Chip
-- when a lent image is legal; refusals 1 and 2
pub mod Image
-- the two starts: registers and memory
pub mod Start
-- the whole outcome of a call
pub mod Calls
-- events on a state that was asked before, and that they are the calls
pub mod OnState
-- a refusal number, or what was asked for
pub mod Result
-- what a record's payload stands for, and the chip after it
pub mod Recorded
-- a stretch of events over any step: how far it came
pub mod Stretch
-- for functions inside the crate: what is asked before anything is loaded
pub mod Accepts
-- for them too: bytes put and compared side by side
pub mod Pieces
-- for them too: the registers by the names that code has
pub mod Held
-- and a stretch of reads, from an offset on
pub mod Reads
-- 2. Laws, each proved in the file of that name in proofs/.
-- why some of them take bytes below 256
pub mod Bytes
-- image and registers convert without loss
pub mod ThereAndBack
-- the image's order and the awaited codes, listed twice
pub mod TablesAgree
-- the two readings of a command byte
pub mod Awaiting
-- the registers that a taken event leaves: column, fresh, read-modify-write, E2
pub mod Moves
-- sleep, standby and awake
pub mod PowerSave
-- what is legal stays legal
pub mod StaysLegal
-- each number exactly when, with its byte and dummy mark
pub mod Given
-- what a call leaves as it was, and the one byte that a write changes
pub mod Untouched
-- a call on lent images is the event on the chip
pub mod CallsOnChip
-- what the starts give and leave, and what the resets make of it
pub mod TheStart
-- the directions are for drawing alone
pub mod Directions
-- a stretch event by event
pub mod StretchLaws
-- one result for each statement
pub mod Settled
