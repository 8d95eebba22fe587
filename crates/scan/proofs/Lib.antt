-- Theorems that rest on the laws of specs/ (laws).
pub mod Asked
pub mod laws
