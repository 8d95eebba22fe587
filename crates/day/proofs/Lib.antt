-- Lemmas of this crate's proofs.
--   Accepted   the number of an answer
--   Places     what an event did to every port, part by part
--   Failed     a read that failed
pub mod Accepted
pub mod Places
pub mod Failed
