-- what is asked first
pub mod Asking
-- what a result says of its number
pub mod Numbered
-- stretches on a pair of machines
pub mod Stretches
-- data bytes written are all taken where one is
pub mod Writes
-- stretches on the selected chips
pub mod Selected
-- events on states that were asked before
pub mod OnBoth
-- how the calls of the code end
pub mod CallCode
-- what the tests of both chips say of the left and of the right
pub mod OneAndTwo
-- how a call ends, in full
pub mod Endings
-- each number exactly when
pub mod WideGiven
-- what a call leaves as it was
pub mod WideUntouched
-- what the page call hands back
pub mod PageLaws
-- an event on the selected machines
pub mod Chips
-- what is legal stays legal
pub mod WideStaysLegal
-- calls computed: which of 1, 2, 13, 14 and 6 goes first
pub mod Samples
-- one result for each statement
pub mod Settled
