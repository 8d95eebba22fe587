-- The session to watch: what the contracts of this program cite.
--   Session   its unit, what its host writes, and the record and the memory after each part
-- What follows from it stands in laws/.
pub mod Session
pub mod laws
