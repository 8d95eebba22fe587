-- What follows from the definitions of the program for caretakers. Nothing here need be believed.
--   Typed    a line of three numbers asks setup for exactly those
--   Advice   setup takes what is advised; what need not change is kept; the base is lowered no further than must be
pub mod Typed
pub mod Advice
