-- What follows from the definitions of the calls. Nothing here need be believed.
--   Refusals   every call answers by the table's number, and a refusal changes nothing
--   Outcomes   any two outcomes that a contract allows are equal
--   Places     no call changes the number of places of the array of ports
--   Set        the set of special codes is that of the last setup that was not refused
--   Singles    running a list of events is running the single things that it comes to
--   Examples   the worked examples hold
pub mod Refusals
pub mod Outcomes
pub mod Places
pub mod Set
pub mod Singles
pub mod Examples
