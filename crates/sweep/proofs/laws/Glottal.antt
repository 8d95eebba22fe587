-- The glottal stop in a sweep (document 01, Sweep): the interrupt that reports it ends the sweep.
--   Swept, glottal_swept   a sweep that starts where the glottal stop waits is the one inspection that reports it
-- Here, and not in specs/laws/Glottal, is what rests on other laws of specs/: an edit of a definition counts as refused where nothing in specs/ rests on the
-- law that it breaks.
-- Assumes nothing.
use Rattle.std.specs.Prelude.{◌≡◌, refl, List, ℕ, suc}
use Rattle.ground.specs.Choose.{pick, bit}
use Rattle.unit.specs.declared.mux.Mux.{Mux}
use Rattle.unit.specs.Refusals.{refusal, of_sweep}
use Rattle.input.specs.laws.Glottal.{Apart}
use Rattle.scan.specs.laws.Glottal.{Waits}
use Rattle.scan.proofs.laws.Glottal.{glottal_seen}
use Rattle.sweep.specs.Sweep.{entered, going, set_out, sweep}
use Rattle.sweep.specs.laws.Sweep.{sweep_raised, sweep_accepted}
use Rattle.sweep.specs.laws.Glottal.{Swept}

-- however many more inspections it was to make, if the unit's set calls the glottal stop special or it has an error
pub glottal_swept : (u : Mux) (m : List ℕ) (n : ℕ) (xs : List ℕ) (p code : ℕ) → Apart u.setting.special code → Waits u m p code → refusal (of_sweep u m (suc n) xs) ≡ 0 → Swept u m p code xs (sweep u m (suc n) xs)
unfolding going entered pick bit
glottal_swept u m n xs p code s h e =
    let d = glottal_seen u m p code s h in
    rw (sweep_accepted u m (suc n) xs e, sweep_raised n (set_out u m xs) h.runs d.one_interrupt)
    (record { made = refl; used = rw d.no_echo; list = rw d.no_echo; world = refl; delivered = d })
