-- What follows from the definitions of the lines. Nothing here need be believed.
--   Lines   what every signal keeps, and what each does to its port
pub mod Lines
