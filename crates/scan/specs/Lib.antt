-- One inspection: what the contracts of this crate cite.
--   Turn   the turn of a port, over what it reads
--   Scan   the port at the scan position, the position moved on, and the call with its refusals
-- What follows from them stands in laws/.
pub mod Turn
pub mod Scan
pub mod laws
