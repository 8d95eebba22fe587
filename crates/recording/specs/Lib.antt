-- A recording: what the contracts of this crate cite (document 02, K8).
--   Fault    what is refused, by its numbers
--   Layout   the one table: tags, parts, widths
--   Tag      the tags by name
--   Event    an event, and what a writer finds at fault in one
--   Field    an event as bytes, and bytes as an event
--   Scan     bytes read field by field into a lent list of events
--   Pass     a list of events written into lent bytes
--   Examples   worked examples, byte by byte
-- What follows from them stands in laws/.
pub mod Fault
pub mod Layout
pub mod Tag
pub mod Event
pub mod Field
pub mod Scan
pub mod Pass
pub mod Examples
pub mod laws
