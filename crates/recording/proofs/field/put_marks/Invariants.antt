-- The loop's invariant: the codes passed are put.
use Rattle.std.proofs.Common.{◌+◌}
use Rattle.ground.specs.Tab.{tab}
use Rattle.recording.specs.Field.{Put, mark_in}
use Rattle.recording.proofs.field.put_marks.Given as goal

abbrev pub invariant-loop-k : goal.invariant-loop-k
invariant-loop-k l = Put (tab l.k (mark_in l.fn.set)) l.fn.at l.initial.out (l.fn.at + l.k) l.out
