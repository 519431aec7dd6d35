-- from a trace to the text that is printed for it
pub mod TraceListing
-- which inputs are listed
pub mod InputLength
-- what is listed is what the run leaves on the glass
pub mod FinalFrame
-- document 01's own trace, and what it prints whole
pub mod Sample
-- what a buffer has then, by its length
pub mod LentBuffer
-- whether a text begins with a word
pub mod Beginning
-- one result for each call's statement
pub mod Settled
