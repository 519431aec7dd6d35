-- masks of low bits are remainders
pub mod Masks
-- a row of places, and rows one after the other
pub mod Lines
-- arrays made place by place
pub mod Made
-- the frame: its length, its rows and its places
pub mod Places
-- a RAM row that is shown is one of the memory
pub mod RamRows
-- bijections of the numbers below n
pub mod Bijection
-- the row rule with all rows in use is a turn of the rows, over any size
pub mod Turns
-- with all rows in use, which RAM row each row shows, over any scan; rows and columns are bijections
pub mod AllRows
-- entire on with all rows in use lights every row
pub mod AllLit
-- what the call and its frame come to; demand 1 for drawing
pub mod Drawing
-- the rules of the frame, for any number of rows in use
pub mod FrameRules
-- Order 2: where the rows in use are
pub mod CentredBand
-- Order 3: both directions turned
pub mod HalfTurn
-- one outcome for each public call
pub mod Settled
-- what drawing does not ask
pub mod Ignored
-- demand 3's settings of this chip, and what each place then shows
pub mod FullSettings
-- one bit of the memory flipped
pub mod Flipped
-- demand 3
pub mod Demand3
-- Order 3: demand 3 speaks of either start
pub mod FullAtStart
-- the whole frame at once
pub mod Upright
-- drawing asks no byte past the memory's 1,188
pub mod FirstBytes
