-- `processor::reset_ports` meets its contract: each turn resets one port more.
use Rattle.std.proofs.Common.{◌≡◌, ℕ, ◌<◌, length, ◌∙◌, ap, sym, add-one, arith, rules}
use Rattle.unit.specs.Record.{no_port}
use Rattle.ground.specs.laws.Arrays.{map_to, map-none, map-one, map_all}
use Rattle.processor.specs.Processor.{reset_port}
use Rattle.processor.proofs.reset_ports.Goals as goal

pub loop-q-init : goal.loop-q-init
loop-q-init c = map-none reset_port c.args.ports.now

pub loop-q-preserved : goal.loop-q-preserved
loop-q-preserved c =
    let l = c.loop-q in
    let t = c.args.ports.now in
    let h : l.q-index < length t = omega (arith, c.loop-q-test.true, l.auto.q-items) in
    cc (map-one reset_port l.q-index t no_port h, add-one l.q-index, l.invariant, c.reset_port.ensures)

pub returns : goal.returns
returns c =
    let t = c.args.ports.now in
    let e : c.loop-q.q-index ≡ length t = search rules in
    c.loop-q.invariant ∙ ap (λ (n : ℕ). map_to reset_port n t) e ∙ map_all reset_port t
