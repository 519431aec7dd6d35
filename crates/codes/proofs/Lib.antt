-- laws on tests, which every layer uses
pub mod Tests
-- how the table is read: rows passed over, the row that decides, no row
pub mod Rows
-- what a command carries is in its range
pub mod InRange
-- the bytes outside the table are those listed, and those that name no page are B9 to BF
pub mod Others
-- one result for each statement
pub mod Settled
