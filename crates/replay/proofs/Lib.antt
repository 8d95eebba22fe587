-- Theorems that rest on the laws of specs/ (laws).
pub mod laws
pub mod Bits
pub mod Faults
