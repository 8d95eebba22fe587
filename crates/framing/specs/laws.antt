-- What follows from the definitions of framing. Nothing here need be believed.
--   Form       how many cells a frame has, and where its parts lie
--   Cells      the level of each baud and each cell
--   Parity     what the parity bit makes of the ones
--   Number     every form has its number
--   Eds8       the form of control bits: its length, its cut, its parity, its stops
--   Read       levels, halves and data, one baud after the other
--   Data       the data bits put together, over any number of them
--   Refusals   18, 19 and 20 exactly when, and what is given then
--   Levels     every cell of a written list, and the levels of one that was changed
--   Frames     what is read of a frame: the one law, and a frame as it was written
--   Changed    a frame whose parity bit, first stop or data bit was changed on the way
--   Any        what any list gives: cells after the first stop, and lists that read without a mark
--   Outcomes   any two outcomes that a contract allows are equal
--   Views      what the code answers is settled by what the definitions say of it
--   Examples   the worked examples hold
pub mod Form
pub mod Cells
pub mod Parity
pub mod Number
pub mod Eds8
pub mod Read
pub mod Data
pub mod Refusals
pub mod Levels
pub mod Frames
pub mod Changed
pub mod Any
pub mod Outcomes
pub mod Views
pub mod Examples
