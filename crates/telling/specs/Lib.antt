-- What is told of a unit: what the contracts of this crate cite.
--   Look   words of control blocks
--   Words  what is told in fixed words
pub mod Look
pub mod Words
