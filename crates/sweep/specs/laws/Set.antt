-- The unit's set of special codes in a sweep (document 02, K5): it reaches the inspections that the sweep makes, and nothing else reads it.
--   sweep_from_by, sweep_by   a sweep by any inspections, the rest being today's
-- In proofs/laws/Set, since they rest on these: as_before.
-- Not here: an inspection by the services as they were, in laws/Set of scan.
-- Assumes nothing.
use Rattle.std.specs.Prelude.{List, ℕ, zero, suc, eqb}
use Rattle.ground.specs.Choose.{pick}
use Rattle.unit.specs.declared.mux.Mux.{Mux}
use Rattle.unit.specs.Reply.{refused, Looked, Outcome, outcome}
use Rattle.unit.specs.Refusals.{refusal, of_sweep}
use Rattle.sweep.specs.Sweep.{Going, going, set_out, arrived_at}

-- n inspections, each by this one
unfoldable pub sweep_from_by : (Mux → List ℕ → Looked) → ℕ → Going → Going
sweep_from_by look zero s = s
sweep_from_by look (suc n) s =
    let l = look s.mux s.memory in
    let more = sweep_from_by look n (going s l) in
    pick s.mux.runs (pick l.reply.answer.raised (going s l) more) s

unfoldable pub sweep_by : (Mux → List ℕ → Looked) → Mux → List ℕ → ℕ → List ℕ → Outcome
sweep_by look u m n xs =
    let k = refusal (of_sweep u m n xs) in
    pick (eqb k 0) (arrived_at (sweep_from_by look n (set_out u m xs))) (outcome (refused k u) m xs)
