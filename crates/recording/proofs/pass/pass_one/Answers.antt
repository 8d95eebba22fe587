-- `recording::pass::pass_one` meets its contract: one of the two passes.
use Rattle.std.proofs.Common.{sym, ap, ◌∙◌}
use Rattle.recording.specs.declared.pass.Pass.{Pass}
use Rattle.recording.specs.Pass.{kept}
use Rattle.recording.specs.laws.Steps.{puts_on, checks_on}
use Rattle.recording.proofs.pass.pass_one.Goals as goal

pub returns-then-p : goal.returns-then-p
returns-then-p c = let a = c.args in c.put_on.ensures ∙ sym (puts_on (kept a.p a.out.now) a.e c.if-p.true)

pub returns : goal.returns
returns c = let a = c.args in ap (λ (p : Pass). kept p a.out.now) c.checked_on.ensures ∙ sym (checks_on (kept a.p a.out.now) a.e c.if-p.false)
