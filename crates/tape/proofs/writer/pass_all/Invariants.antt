-- `tape::writer::pass_all` meets its contract. The loop's invariant: the pass over the events that are left comes to the whole.
use Rattle.std.proofs.Common.{◌≡◌, drop}
use Rattle.ground.specs.Machine.{run}
use Rattle.recording.specs.Pass.{kept, passed}
use Rattle.tape.proofs.writer.pass_all.Given as goal

abbrev pub invariant-loop-e : goal.invariant-loop-e
invariant-loop-e l = run passed (kept l.w l.out) (drop l.e-index l.events) ≡ run passed (kept l.initial.w l.initial.out) l.events
