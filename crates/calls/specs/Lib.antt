-- Everything that may be asked, as one type of calls with one step; lists of calls and host writes.
--   Calls      one call: its step, and what it is given
--   Events     lists of calls and host writes, the single things that they come to, and which inspections count
--   Examples   the settled examples of document 01, values of the 1974 manual, and the edges of a request
-- What follows from them stands in laws/.
pub mod Calls
pub mod Events
pub mod Examples
pub mod laws
