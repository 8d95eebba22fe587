-- `replay::walk::replay_on` meets its contract. The loop's invariant: the events that are left, played on, come to the whole.
use Rattle.std.proofs.Common.{◌≡◌, drop}
use Rattle.ground.specs.Machine.{run}
use Rattle.recording.specs.Pass.{kept}
use Rattle.replay.specs.Replay.{replayed}
use Rattle.replay.proofs.walk.replay_on.Given as goal

abbrev pub invariant-loop-e : goal.invariant-loop-e
invariant-loop-e l = run replayed (kept l.w l.mem) (drop l.e-index l.events) ≡ run replayed (kept l.initial.w l.initial.mem) l.events
