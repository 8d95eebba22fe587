-- What follows from the definitions of stream. Nothing here need be believed.
--   Front      what the first bytes of a field decide, whatever follows them
--   Steps      one byte, and the end: each branch
--   Stands     where reading stands between two bytes, and what comes of what is left
--   Whole      reading byte by byte is the reading of the whole
--   Examples   two fields, cut and whole
pub mod Front
pub mod Steps
pub mod Stands
pub mod Whole
pub mod Examples
