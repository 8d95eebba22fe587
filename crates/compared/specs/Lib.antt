-- The proved code, compared with the second program: what the contracts of this program cite.
--   Desk      what a driver keeps
--   Orders    what the numbers of a line of a session's text ask of the unit
--   Frames    frames in the cells that are lent
--   Said      the numbers that a driver prints for an order
--   Session   what each order leaves, and the text taken byte by byte
-- What follows from them stands in laws/.
pub mod Desk
pub mod Orders
pub mod Frames
pub mod Said
pub mod Session
pub mod laws
