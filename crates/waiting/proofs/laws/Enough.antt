-- The bounds themselves are enough: two corollaries of demand 3.
--   exactly-P, exactly_k_p       P inspections, and (k+1)·P
-- Not here: that no fewer are, in specs/laws/Tight.
-- Assumes nothing.
use Rattle.std.specs.Prelude.{◌≡◌, List, ◌⊎◌, ℕ, ◌+◌, ◌*◌, ◌≤◌, ◌<◌}
use Rattle.std.proofs.Common.{arith}
use Rattle.unit.specs.Record.{port_at}
use Rattle.unit.specs.Reply.{World}
use Rattle.calls.specs.Events.{Single, after}
use Rattle.waiting.specs.Waiting.{P, Running, Empty, Since, Takes, inspections, inputs, Served, Replaced, Broken, OutputServed, Echoed, OutputBroken}
use Rattle.waiting.proofs.laws.Proof.{demand}

-- exactly P inspections
pub exactly-P :
    (v : World) (p : ℕ) (a : Single) (xs : List Single) → Since v → Running v → Takes p v a →
    let w = after v a in let c = (port_at w.mux p).ch in
    (Broken p c w xs → ⊥) → inspections w xs ≡ P w →
    Served p c w xs ⊎ Replaced p c w xs
exactly-P v p a xs s r t calm e = demand.first_bound v p a xs s r t calm (omega (arith, e))

-- exactly (k+1)·P
pub exactly_k_p :
    (w : World) (p k : ℕ) (xs : List Single) → Running w → p < P w → Empty p w →
    inputs p w xs ≤ k → (Echoed p w xs → ⊥) → (OutputBroken p w xs → ⊥) → inspections w xs ≡ (k + 1) * P w →
    OutputServed p w xs
exactly_k_p w p k xs r b e few quiet calm n = (demand.second_bound w p k xs r b e few quiet calm (omega (arith, n))).0
