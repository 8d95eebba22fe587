-- `replay::walk::replay_on` meets its contract: `replay_one` for each event.
use Rattle.std.proofs.Common.{◌+◌, drop, sym, ◌∙◌, ap, arith}
use Rattle.ground.specs.Machine.{run}
use Rattle.recording.specs.Pass.{Kept, kept}
use Rattle.tape.proofs.Walks.{run_more, run_end}
use Rattle.replay.specs.declared.play.Played.{Played}
use Rattle.replay.specs.Replay.{replayed}
use Rattle.replay.proofs.walk.replay_on.Goals as goal

pub loop-e-preserved : goal.loop-e-preserved
loop-e-preserved c =
    let l = c.loop-e in
    let es = c.args.events.now in
    ap (λ (k : Kept Played). run replayed k (drop (l.e-index + 1) es)) c.replay_one-w.ensures ∙ run_more replayed (kept l.w l.mem) es l.e-index _ c.loop-e-test.true ∙ l.invariant

pub returns : goal.returns
returns c =
    let l = c.loop-e in
    sym (run_end replayed (kept l.w l.mem) c.args.events.now l.e-index (omega arith)) ∙ l.invariant
