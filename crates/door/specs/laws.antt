-- What follows from the door's contract. Nothing here need be believed.
--   Door      the number, what a refusal leaves, that there is one outcome, and what a list of calls leaves
--   Glottal   the glottal stop through the door
pub mod Door
pub mod Glottal
