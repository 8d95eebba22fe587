-- The record of the unit, what calls answer, and the table of refusals.
--   Record     the record's builders: a port of it, one port changed, a fresh unit, the record of zeros
--   Reply      what calls answer and leave
--   Refusals   the table of refusal numbers
--   Setup      a new unit
--   Sound      what a sound record is, part by part
-- What follows from them stands in laws/.
pub mod Record
pub mod Reply
pub mod Refusals
pub mod Setup
pub mod Sound
pub mod laws
