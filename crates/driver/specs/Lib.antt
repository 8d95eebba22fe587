-- What a driver of the text of sessions needs: what the contracts of this crate cite.
--   Digest    the digests of tests/second/FORMAT.md
--   Text      the line that is read, byte by byte
--   Printed   the line that is printed
--   Poke      orders 24 and 25
--   Host      what orders 17, 18 and 21 put into the cells and the memory
-- What follows from them stands in laws/.
pub mod Digest
pub mod Text
pub mod Printed
pub mod Poke
pub mod Host
pub mod laws
