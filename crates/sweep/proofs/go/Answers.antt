-- `sweep::go` meets its contract: an inspection that raises an interrupt is the last, and after any other the sweep is on its way.
use Rattle.std.proofs.Common.{◌≡◌, ◌∙◌, ℕ, ap, arith}
use Rattle.unit.specs.Reply.{Replied, outcome}
use Rattle.sweep.specs.Sweep.{swept, arrived_at}
use Rattle.sweep.proofs.Way.{named, joined, again, stopped_by, off}
use Rattle.sweep.proofs.go.Goals as goal

pub enter-used-requires-clause-port_bound : goal.enter-used-requires-clause-port_bound
enter-used-requires-clause-port_bound c = named c.loop-made.invariant c.take_turn-answer.ensures

pub returns-then-answer : goal.returns-then-answer
returns-then-answer c =
    ap (λ (r : Replied). outcome r c.take_turn-answer.new.mem c.enter-used.new.list) c.swept.ensures
    ∙ ap arrived_at (stopped_by c.loop-made.invariant c.loop-made-test.true c.take_turn-answer.ensures (joined _ c.enter-used.ensures) c.if-answer.true)

pub loop-made-preserved : goal.loop-made-preserved
loop-made-preserved c =
    again c.loop-made.invariant c.loop-made-test.true c.take_turn-answer.ensures (joined _ c.enter-used.ensures) c.if-answer.false

pub returns : goal.returns
returns c =
    let all : c.args.n ≡ c.loop-made.made = omega arith in
    ap (λ (r : Replied). outcome r c.loop-made.mem c.loop-made.list) c.swept-2.ensures
    ∙ ap (λ (k : ℕ). outcome (swept k c.loop-made.used c.loop-made.u) c.loop-made.mem c.loop-made.list) all
    ∙ ap arrived_at (off c.loop-made.invariant c.loop-made-test.false)
