-- The interrupt side of the unit: what the contracts of this crate cite.
--   Status      the merged status word of an EDS-8
--   Stack       the stack of a Mighty Mux: an interrupt, START, DIA
--   Interrupt   either kind: a new one, reset, its soundness, an interrupt raised, START, DIA, a tick
-- What follows from it stands in laws/.
pub mod Status
pub mod Stack
pub mod Interrupt
pub mod laws
