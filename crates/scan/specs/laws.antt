-- What follows from the definitions of one inspection. Nothing here need be believed.
--   Scan      which inspection is a turn, which turn it is, and what a turn does and keeps
--   Glottal   the glottal stop at an inspection
--   Interrupt an inspection answers "raised" exactly where it has raised an interrupt
--   Set       the unit's set of special codes reaches the services, and nothing else reads it
pub mod Scan
pub mod Glottal
pub mod Set
pub mod Interrupt
