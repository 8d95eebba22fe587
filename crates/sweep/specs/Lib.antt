-- A sweep: what the contracts of this crate cite.
--   Sweep   the composition of single inspections, and the call with its refusals
-- What follows from it stands in laws/.
pub mod Sweep
pub mod laws
