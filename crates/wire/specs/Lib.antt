-- From the wire into the unit (document 02, K3): what the contract of this crate cites.
--   Wire   the arrival of a character that was read from the wire
-- What follows from it stands in laws/.
pub mod Wire
pub mod laws
