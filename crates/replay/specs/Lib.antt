-- Playing a recording: what the contracts of this crate cite (document 02, K8).
--   Calls    what each event is to the unit, and each call as an event
--   Replay   one event played, and a replay
--   Examples   the call of each tag, and short recordings played
-- What follows from them stands in laws/.
pub mod Calls
pub mod Replay
pub mod Examples
pub mod laws
