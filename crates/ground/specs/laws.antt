-- What follows from the ground's definitions. Nothing here need be believed.
--   Rows       choosing, laws of tests, and of the first row of a table that applies
--   Tests      the branch that the code took is the definition's: the lemmas of `search tests`
--   Arrays     an array changed in place or filled, one element after the other
--   Filled     an array that the library fills, place by place
--   Machine    runs and sums over a run
--   Rotation   places visited in rotation: nobody who waits for a turn waits for ever
pub mod Rows
pub mod Tests
pub mod Arrays
pub mod Filled
pub mod Machine
pub mod Rotation
