-- The input service of a port: what the contracts of this crate cite.
--   Plan    a plan of an input service, and how the code has it
--   Input   the error code, the six steps as a plan, and the stores
-- What follows from it stands in laws/.
pub mod Plan
pub mod Input
pub mod laws
