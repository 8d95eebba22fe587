-- What follows from the definitions of the output service. Nothing here need be believed.
--   Kept    what a service may change in the memory, and that it changes nothing else
--   Modes   the plan of each mode, by the mode's name
--   Word    what the host reads of OCW after it was written
--   Rules   the service by any rules for a buffer's end and a special code
--   Ends    a buffer of automatic output ends
--   Glottal the glottal stop that is sent: it stops an output, or it does not
pub mod Kept
pub mod Modes
pub mod Word
pub mod Rules
pub mod Ends
pub mod Glottal
