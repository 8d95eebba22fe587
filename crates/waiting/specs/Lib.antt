-- Nobody waits for ever (demand 3).
--   Counting   tests of a single thing, for whoever counts
--   Waiting    the statement
-- What follows from them stands in laws/ and proofs/laws.
pub mod Counting
pub mod Waiting
pub mod laws
