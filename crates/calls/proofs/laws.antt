-- What rests on the laws of specs/laws, in files of the same names.
pub mod Places
pub mod Refusals
pub mod Set
pub mod Singles
