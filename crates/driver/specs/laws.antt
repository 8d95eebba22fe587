-- What follows from the driver's definitions. Nothing here need be believed.
--   Folds      a fold over a list, from a place in it on; a digest taken number by number
--   Fill       the numbers of orders 18 and 21, filled one after the other
--   Numerals   a number's decimal digits
--   Lines      the bytes of a line, put one number after the other
--   Heard      what some text leaves, from one read to the next
pub mod Folds
pub mod Fill
pub mod Numerals
pub mod Lines
pub mod Heard
