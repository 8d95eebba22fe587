-- What rests on the laws of specs/laws, in files of the same names.
pub mod Any
pub mod Cells
pub mod Changed
pub mod Eds8
pub mod Frames
pub mod Levels
pub mod Parity
pub mod Read
pub mod Refusals
