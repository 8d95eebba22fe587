-- What demand 3's words mean, by examples. Nothing here need be believed. The demand is proved in proofs/laws.
--   Tight    the bounds are real and no wider than they must be
pub mod Tight
