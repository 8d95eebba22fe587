-- The output service of a port: what the contracts of this crate cite.
--   Plan     a plan of an output service, and how the code has it
--   Output   the four modes as a plan, the status bits, and the stores
-- What follows from it stands in laws/.
pub mod Plan
pub mod Output
pub mod laws
