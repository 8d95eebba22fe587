-- The door: what the contracts of this crate cite.
--   Door   what a call on the lent record leaves, its contract, and lists of such calls
-- What follows stands in laws/.
pub mod Door
pub mod laws
