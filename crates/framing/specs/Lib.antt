-- Bits on the wire: what the contracts of this crate cite (document 02, K3).
--   Form    the form of a frame: data bits, parity, stops, and how many cells that makes
--   Cells   what each cell of a frame is
--   Refusal   why it is not written or not read, by number
--   Write   a frame written into a list
--   Read    a frame read from a list
--   Number  forms by number
--   Eds8    the form that an EDS-8's control bits ask for
--   Examples   worked examples, drawn cell by cell
-- What follows from them stands in laws/.
pub mod Form
pub mod Cells
pub mod Refusal
pub mod Write
pub mod Read
pub mod Number
pub mod Eds8
pub mod Examples
pub mod laws
