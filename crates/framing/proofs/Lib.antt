-- One data bit more (Bits), how far a frame's parts reach (Sizes), and theorems that rest on the laws of specs/ (laws).
pub mod Bits
pub mod Sizes
pub mod laws
