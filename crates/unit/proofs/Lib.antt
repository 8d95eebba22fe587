-- Theorems that rest on the laws of specs/ (laws), and what a check of the table found (Found).
pub mod Found
pub mod laws
