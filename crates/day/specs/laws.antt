-- What follows from the definitions of day. Nothing here need be believed.
--   Steps   one event, one byte and one read, as the code has them
--   Day     a day is the replay of its recording
pub mod Steps
pub mod Day
