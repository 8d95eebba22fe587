-- The ground: what every definition of the project is made with, and nothing of the multiplexer itself.
--   Choose     choosing between two values by a test, the first row of a table that applies, a number with its bound
--   Tab        a list by its rule
--   Machine    any machine: runs, sums over a run, and what holds on the way
-- What follows from them stands in laws/: tests and tables (Rows, Tests), an array changed in place or filled (Arrays), runs (Machine), places visited in
-- rotation (Rotation).
pub mod Choose
pub mod Tab
pub mod Machine
pub mod laws
