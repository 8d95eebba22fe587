-- First in, first out, proved. Nothing here need be believed.
--   View     what one single thing does to the interrupt side: the one case analysis
--   Proof    the whole statement
--   Real     the statement is not empty: examples that compute
pub mod View
pub mod Proof
pub mod Real
