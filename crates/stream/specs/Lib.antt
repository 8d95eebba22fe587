-- A recording that comes in parts: what the contracts of this crate cite (document 02, K8).
--   Stream   a recording read byte by byte
-- What follows from it stands in laws/.
pub mod Stream
pub mod laws
