-- The program that draws a frame: what its contracts cite.
--   Asked    what a line asks for
--   Draw     the rows of a picture
--   Typing   what is typed, byte by byte
--   Words    the parity and the stop in words
-- What follows from them stands in laws/.
pub mod Asked
pub mod Draw
pub mod Typing
pub mod Words
pub mod laws
