-- 1. Definitions.
-- what a number selects
pub mod Selection
-- the two chips
pub mod Pair
-- refusals 1 and 2 for two chips
pub mod Asked
-- what an event does to the selected chips
pub mod Events
-- the whole outcome of a call
pub mod WideCalls
-- for functions inside the crate: events on both states, asked before
pub mod OnBoth
-- a stretch as the code has it
pub mod WideStretch
-- the page that is handed back
pub mod Page
-- 2. Laws, each proved in the file of that name in proofs/.
-- refusals 1 and 2 of the left or of the right, in document 01's words
pub mod OneAndTwo
-- each number exactly when
pub mod WideGiven
-- what a call leaves as it was
pub mod WideUntouched
-- what the page call hands back
pub mod PageLaws
-- an event on the selected machines
pub mod Chips
-- what is legal stays legal
pub mod WideStaysLegal
-- calls computed: which of 1, 2, 13, 14 and 6 goes first
pub mod Samples
-- one result for each statement
pub mod Settled
