-- laws on tests, for the layers above
pub mod Tests
-- 1. A lent state and memory.
-- what it says that they are long enough, and that an image is within its ranges
pub mod Legal
-- what they are asked first, and with what they are refused
pub mod Asking
-- image and registers convert without loss
pub mod ThereAndBack
-- the image at the start of a lent state
pub mod OwnImage
-- and the ranges of its registers
pub mod First
-- the image's order and the awaited codes, listed twice
pub mod TablesAgree
-- the ranges of registers side by side, asked as one number
pub mod Ranges
-- what a result of code stands for tells which result it is
pub mod Results
-- 2. Events.
-- what it says of registers and memory that a data write or read is taken
pub mod Access
-- the number that an answer stands for, and what is silent
pub mod Answers
-- the two readings of a command byte
pub mod Awaiting
-- the registers that a taken event leaves: column, fresh, read-modify-write, E2
pub mod Moves
-- sleep, standby and awake
pub mod PowerSave
-- a taken event leaves legal registers, command by command
pub mod Kept
-- 3. Calls.
-- how a call ends
pub mod Concluded
-- a lent state that legal registers were stored in
pub mod Stored
-- what is asked first, by its tests, and what a data byte leaves of the registers
pub mod AskedFirst
-- events on a state that was asked before
pub mod OnState
-- what a call leaves as it was, and the one byte that a write changes
pub mod Untouched
-- the reply that a call gives, by number, byte and dummy mark
pub mod Replies
-- each number exactly when
pub mod Given
-- what a call accepted, the next accepts
pub mod StaysLegal
-- a call on lent images is the event on the chip
pub mod CallsOnChip
-- the directions are for drawing alone
pub mod Directions
-- what the starts give and leave, and what the resets make of it
pub mod TheStart
-- 4. Stretches.
-- what was recorded, replayed on the chip
pub mod Replayed
-- one event more, how many are taken, two stretches in a row
pub mod StretchLaws
-- 5. Pieces of data.
-- bytes put and compared side by side
pub mod SideBySide
-- what a piece of data comes to
pub mod PieceLaws
-- 6. One result for each statement.
pub mod Settled
