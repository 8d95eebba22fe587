-- What follows from the definitions of the processor's orders. Nothing here need be believed.
--   Processor   what the orders keep, clear and return, and which of them stop a unit
pub mod Processor
