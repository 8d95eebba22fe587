-- `replay::play::call_lent` meets its contract: the call on what is lent of the list.
use Rattle.std.proofs.Common.{◌∙◌, ap, arith, take, length-take}
use Rattle.unit.specs.Reply.{world, replied_of}
use Rattle.calls.specs.declared.call.Call.{Call}
use Rattle.calls.specs.Calls.{step}
use Rattle.replay.specs.laws.Plays.{called_back}
use Rattle.replay.proofs.play.call_lent.Goals as goal

pub slice_bounds-step-end-2 : goal.slice_bounds-step-end-2
slice_bounds-step-end-2 c = simp length-take (omega arith)

pub returns : goal.returns
returns c =
    let a = c.args in
    let s = c.step in
    called_back (world a.u a.mem.now) a.list.now a.e _ (replied_of a.u s.result) s.new.mem s.new.list c.room-k.ensures
    (s.ensures ∙ ap (λ (k : Call). step (world a.u a.mem.now) (take c.room-k.result a.list.now) k) c.call_of.ensures)
