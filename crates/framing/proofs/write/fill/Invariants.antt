-- The loop's invariant: the cells passed are the frame's, the rest as they were.
use Rattle.std.proofs.Common.{◌≡◌}
use Rattle.ground.specs.laws.Arrays.{tab_to}
use Rattle.framing.specs.Cells.{frame_cell}
use Rattle.framing.proofs.write.fill.Given as goal

abbrev pub invariant-loop-i : goal.invariant-loop-i
invariant-loop-i l = l.cell-items ≡ tab_to l.i (frame_cell l.f l.initial.c) l.initial.cell-items
