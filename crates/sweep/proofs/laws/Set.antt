-- The unit's set of special codes in a sweep (document 02, K5): it reaches the inspections that the sweep makes, and nothing else reads it.
--   as_before              by the 1974 set every sweep answers, and leaves record, memory and list, as it did without a set
-- Here, and not in specs/laws/Set, is what rests on other laws of specs/: an edit of a definition counts as refused where nothing in specs/ rests on the
-- law that it breaks.
-- Assumes nothing.
use Rattle.std.specs.Prelude.{◌≡◌, refl, List, ℕ, zero, suc, eqb}
use Rattle.std.proofs.Common.{◌∙◌, ap}
use Rattle.ground.specs.Choose.{pick}
use Rattle.words.specs.Special.{set1974}
use Rattle.unit.specs.declared.mux.Setting.{Setting}
use Rattle.unit.specs.declared.mux.Mux.{Mux}
use Rattle.unit.specs.Reply.{refused, Looked, outcome}
use Rattle.unit.specs.Refusals.{refusal, of_sweep}
use Rattle.scan.specs.Scan.{inspection}
use Rattle.scan.proofs.laws.Scan.{inspection_setting}
use Rattle.scan.proofs.laws.Set as Scan
use Rattle.scan.specs.laws.Set.{inspection_by, service_was}
use Rattle.sweep.specs.Sweep.{Going, going, sweep_from, set_out, arrived_at, sweep}
use Rattle.sweep.specs.laws.Set.{sweep_from_by, sweep_by}

-- as it was without a set
abbrev was : Mux → List ℕ → Looked
was u m = inspection_by service_was u m

-- each inspection finds the 1974 set as the one before left it
from_same : (n : ℕ) (s : Going) → s.mux.setting.special ≡ set1974 → sweep_from n s ≡ sweep_from_by was n s
unfolding sweep_from sweep_from_by going
from_same zero s e = refl
from_same (suc n) s e =
    let l = inspection s.mux s.memory in
    let kept = ap (λ (t : Setting). t.special) (inspection_setting s.mux s.memory) ∙ e in
    ap (λ (more : Going). pick s.mux.runs (pick l.reply.answer.raised (going s l) more) s) (from_same n (going s l) kept)
    ∙ ap (λ (k : Looked). pick s.mux.runs (pick k.reply.answer.raised (going s k) (sweep_from_by was n (going s k))) s) (Scan.as_before s.mux s.memory e)

pub as_before : (u : Mux) (m : List ℕ) (n : ℕ) (xs : List ℕ) → u.setting.special ≡ set1974 → sweep u m n xs ≡ sweep_by was u m n xs
unfolding sweep sweep_by
as_before u m n xs e =
    let k = refusal (of_sweep u m n xs) in
    ap (λ (s : Going). pick (eqb k 0) (arrived_at s) (outcome (refused k u) m xs)) (from_same n (set_out u m xs) e)
