-- What the lines do: what the contracts of this crate cite.
--   Lines   a signal of a line at its port, and as a call
-- What follows from it stands in laws/.
pub mod Lines
pub mod laws
