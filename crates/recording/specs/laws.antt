-- What follows from the definitions of recording. Nothing here need be believed.
--   Views    what a contract says of the code's values by their numbers says all of them
--   Examples   the worked examples hold
--   Put      bytes put into a list, one after the other
--   Layout   the table: how long each tag's field is
--   Marks    bytes from a place on, and the set, one place after the other
--   Parts    where the parts of a field stand
--   Codes    what is at fault, exactly when
--   Scan     reading on, field by field
--   Steps    one event of a pass
--   Passes   the passes come to the call, and its refusals exactly when
--   Undo     one event and one field: each is the other's
--   Trips    lists of events, and then their bytes
--   Reads    reading, each answer exactly when
--   Calls    writing and reading as calls: what is refused and where, and that each is the other's
--   Outcomes   any two outcomes that a contract allows are equal
--   Fill     events put into a list one after the other
pub mod Views
pub mod Examples
pub mod Put
pub mod Layout
pub mod Marks
pub mod Parts
pub mod Codes
pub mod Scan
pub mod Steps
pub mod Passes
pub mod Undo
pub mod Trips
pub mod Reads
pub mod Calls
pub mod Outcomes
pub mod Fill
