-- What rests on the laws of recording: the walks, and the two passes.
pub mod Passes
pub mod Walks
