-- The laws that the proofs of this crate share.
--   Way   a sweep on its way: the loop's invariant
pub mod Way
pub mod laws
