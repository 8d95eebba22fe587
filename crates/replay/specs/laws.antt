-- What follows from the definitions of replay. Nothing here need be believed.
--   Examples   the worked examples hold
--   Plays    one event with a list lent to it, case by case
--   Lists    a sweep's record and memory do not depend on what is in its list
--   Replay   a replay is the run over what its events come to
--   Calls    every call has its event, and every event is a call's or a host write's; that the event records the call, in proofs/laws
--   Outcomes   any two outcomes that a contract allows are equal
pub mod Examples
pub mod Plays
pub mod Lists
pub mod Replay
pub mod Calls
pub mod Outcomes
