-- What the processor does: what the contracts of this crate cite.
--   Processor   reset, IOPLS, START, DOC, DOB, DIA, DIAS and the tick: what each returns and leaves, and the call
-- What follows from it stands in laws/.
pub mod Processor
pub mod laws
