-- The loop's invariant: the bits passed are put together.
use Rattle.std.proofs.Common.{◌≡◌}
use Rattle.framing.specs.Read.{level_at, data_of}
use Rattle.framing.proofs.heard.Heard.data.Given as goal

abbrev pub invariant-loop-k : goal.invariant-loop-k
invariant-loop-k l = l.«data» ≡ data_of (level_at l.self.cells.now) l.k
