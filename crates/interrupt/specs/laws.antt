-- What follows from the definitions of the interrupt side. Nothing here need be believed.
--   Interrupt   soundness is kept, and what START, a tick and a reset do to the flag and to bit 0
--   Stack       the entries of a Mighty Mux: what an interrupt and START do to them, and that freed places are 0
--   Shown       an entry in numbers, and what DIA shows of a Mighty Mux bit by bit
--   Before      an EDS-8's interrupt side is what it was before there was a Mighty Mux
pub mod Interrupt
pub mod Stack
pub mod Shown
pub mod Before
