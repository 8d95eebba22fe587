-- `replay::play::replay_one` meets its contract: nothing after a refusal, else the event.
use Rattle.std.proofs.Common.{sym, ◌∙◌, ap}
use Rattle.unit.specs.Reply.{world, Outcome}
use Rattle.recording.specs.Pass.{kept}
use Rattle.replay.specs.Replay.{standing}
use Rattle.replay.specs.laws.Plays.{stopped, goes_on}
use Rattle.replay.specs.laws.Lists.{played_by}
use Rattle.replay.proofs.play.replay_one.Goals as goal

pub returns-then-s-ne0 : goal.returns-then-s-ne0
returns-then-s-ne0 c = let a = c.args in sym (stopped (kept a.s a.mem.now) a.e c.if-s-ne0.true)

pub returns-in-Ok : goal.returns-in-Ok
returns-in-Ok c =
    let a = c.args in
    ap standing (ap (λ (o : Outcome). o.world) c.in-Ok.ensures ∙ played_by (world a.s.mux a.mem.now) a.e) ∙ sym (goes_on (kept a.s a.mem.now) a.e c.if-s-ne0.false)

pub returns-in-Err : goal.returns-in-Err
returns-in-Err c =
    let a = c.args in
    ap standing (ap (λ (o : Outcome). o.world) c.in-Err.ensures ∙ played_by (world a.s.mux a.mem.now) a.e) ∙ sym (goes_on (kept a.s a.mem.now) a.e c.if-s-ne0.false)
