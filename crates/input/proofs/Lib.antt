-- Theorems that rest on the laws of specs/ (laws), and what the plans of the code store (Stores).
pub mod Stores
pub mod laws
