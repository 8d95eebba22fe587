-- Demand 3, proved. Nothing here need be believed.
--   View     what one single thing does to a port: the one case analysis
--   Tests    the tests of single things are true where the demand's words hold, and nowhere else
--   Balance  every character taken is served, replaced, dropped or held, and counted once
--   Proof    the whole statement
--   Enough   the bounds themselves are enough: two corollaries
pub mod View
pub mod Tests
pub mod Balance
pub mod Proof
pub mod Enough
