-- What follows from the definition of a sweep. Nothing here need be believed.
--   Sweep     how a sweep goes on, that it is the inspections it counts, and what it leaves in the list
--   Glottal   the glottal stop in a sweep
--   Set       by the 1974 set a sweep is what it was
pub mod Sweep
pub mod Glottal
pub mod Set
