-- First in, first out (document 02, K6).
--   Fifo    the statement
-- What follows from it stands in proofs/laws.
pub mod Fifo
