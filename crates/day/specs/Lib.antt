-- A school day played again: what the contracts of this program cite.
--   Names   where the lines that pupils type began
--   Day     the day after each byte of its recording
--   Words   why a field is refused
-- What follows from them stands in laws/.
pub mod Names
pub mod Day
pub mod Words
pub mod laws
