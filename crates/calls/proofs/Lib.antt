-- Theorems that rest on the laws of specs/ (laws).
pub mod SetUp
pub mod laws
