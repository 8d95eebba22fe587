-- Words and pointers: what the contracts of the leaves cite, one file for each file of src/ but ascii.rt, whose definitions are in Codes.
--   Field     a bit field of a word: its value, and the word with another value in it
--   Codes     the one table of bit codes of document 01 and of the EDS-8 manual (001)
--   Modes     the modes of input and output as the code has them
--   Pointer   a byte pointer's step, and whether a buffer's end is reached
--   Byte      the byte at a byte pointer: fetched and stored
--   Special   special and ordinary codes, by the rule of 1974 and by a set
--   Length    the cut to a port's length
--   Speed     the eight speeds
-- What follows from them stands in laws/.
pub mod Field
pub mod Codes
pub mod Modes
pub mod Pointer
pub mod Byte
pub mod Special
pub mod Length
pub mod Speed
pub mod laws
