-- What follows from the definitions of the input service. Nothing here need be believed.
--   Word       what the host reads of ICW after it was written
--   Kept       what a service may change in the memory, and that it changes nothing else
--   Automatic  a character in automatic mode: told by ICW, or stored
--   Glottal    the glottal stop: what a special code, an ordinary one and a lost one leave
--   Rules      the service by any rules for a buffer's end and a special code
--   Set        what the unit's set of special codes is to a service
--   Ends       a buffer of automatic input ends
pub mod Word
pub mod Kept
pub mod Automatic
pub mod Glottal
pub mod Rules
pub mod Set
pub mod Ends
