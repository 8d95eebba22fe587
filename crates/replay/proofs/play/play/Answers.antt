-- `replay::play::play` meets its contract: nothing, a host write, or a call.
use Rattle.std.proofs.Common.{ℕ, List, sym, ap, ◌∙◌}
use Rattle.unit.specs.Reply.{Answer, Replied, nothing, answered, world, outcome}
use Rattle.replay.specs.laws.Plays.{plays_bad, plays_write, plays_call}
use Rattle.replay.proofs.Faults.{code_err, code_ok}
use Rattle.replay.proofs.play.play.Goals as goal

pub returns-then-is_err : goal.returns-then-is_err
returns-then-is_err c =
    let a = c.args in
    ap (λ (r : Replied). outcome r a.mem.now a.list.now) (c.answered.ensures ∙ ap (λ (n : Answer). answered n a.u) c.nothing.ensures) ∙ (sym (plays_bad (world a.u a.mem.now) a.list.now a.e (λ z. code_err c.check_event.result (sym c.is_err.ensures.value ∙ c.if-is_err.true) (c.check_event.ensures ∙ z))))

pub returns-then-e-eq-HOST_WRITE : goal.returns-then-e-eq-HOST_WRITE
returns-then-e-eq-HOST_WRITE c =
    let a = c.args in
    ap (λ (r : Replied). outcome r c.put.new.mem a.list.now) (c.answered-then-e-eq-HOST_WRITE.ensures ∙ ap (λ (n : Answer). answered n a.u) c.nothing-then-e-eq-HOST_WRITE.ensures)
    ∙ ap (λ (m : List ℕ). outcome (answered nothing a.u) m a.list.now) c.put.ensures
    ∙ (sym (plays_write (world a.u a.mem.now) a.list.now a.e (sym c.check_event.ensures ∙ code_ok c.check_event.result (sym c.is_err.ensures.value ∙ c.if-is_err.false)) c.if-e-eq-HOST_WRITE.true))

pub returns : goal.returns
returns c =
    let a = c.args in
    c.call_lent.ensures ∙ sym (plays_call (world a.u a.mem.now) a.list.now a.e (sym c.check_event.ensures ∙ code_ok c.check_event.result (sym c.is_err.ensures.value ∙ c.if-is_err.false)) c.if-e-eq-HOST_WRITE.false)
