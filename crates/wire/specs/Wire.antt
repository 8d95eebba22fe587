-- The arrival of a character that was read from the wire (document 02, K3).
-- Not here: how a frame is read, in framing; what an arrival does, in lines; what follows, in laws/Wire.
-- Assumes nothing.
use Rattle.framing.specs.Read.{Frame}
use Rattle.lines.specs.declared.signal.Signal.{Signal}
use Rattle.lines.specs.declared.signal.Signal.TheVariants.{Arrival}

-- the character and its two marks, as they were read
abbrev pub arrival_of : Frame → Signal
arrival_of r = Arrival r.c r.parity r.brk
