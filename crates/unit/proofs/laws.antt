-- What rests on the laws of specs/laws, in files of the same names.
pub mod Area
pub mod Base
pub mod Kind
pub mod Location
pub mod Refusals
pub mod Replies
pub mod Set
pub mod Sound
pub mod Tables
