-- What follows from the session's definitions. Nothing here need be believed.
--   Session   setup takes its setting; where the glottal stop stands, and the letters in the buffer
pub mod Session
