-- 1. Definitions.
-- the four events as C sees them
pub mod Events
-- the page call as C sees it
pub mod Page
-- the listing as C sees it
pub mod List
-- 2. What is proved of them.
-- where the part that the page call hands back lies
pub mod PagePlace
-- calls and pages as C is handed them, computed
pub mod Samples
-- one result for each exported call
pub mod Settled
