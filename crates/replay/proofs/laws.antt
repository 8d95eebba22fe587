-- What rests on the laws of specs/laws, in files of the same names.
pub mod Calls
