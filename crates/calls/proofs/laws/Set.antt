-- The unit's set of special codes over calls (document 02, K5: "kept in the record").
--   set_since       so the set is that of the last setup that was not refused, however many calls and host writes came since
-- Here, and not in specs/laws/Set, is what rests on other laws of specs/: an edit of a definition counts as refused where nothing in specs/ rests on the
-- law that it breaks.
-- Assumes nothing.
use Rattle.std.specs.Prelude.{◌≡◌, refl, List, [], ◌∷◌}
use Rattle.std.proofs.Common.{◌∙◌, ap}
use Rattle.ground.specs.Machine.{run, Every}
use Rattle.unit.specs.declared.mux.Setting.{Setting}
use Rattle.unit.specs.Reply.{World}
use Rattle.unit.specs.Refusals.{refusal, of_setup}
use Rattle.calls.specs.Events.{Single, NoSetup, sets_up, after, run_singles}
use Rattle.calls.specs.laws.Set.{keeps_setting, brings_setting}

-- over a list without a setup, but for refused ones
run_setting : (w : World) (xs : List Single) → Every after (λ v a. NoSetup a) w xs → (run_singles w xs).mux.setting ≡ w.mux.setting
unfolding run
run_setting w [] h = refl
run_setting w (a ∷ xs) h = run_setting (after w a) xs h.1 ∙ keeps_setting w a h.0

pub set_since : (w : World) (s : Setting) (xs : List Single) → refusal (of_setup s) ≡ 0 → Every after (λ v a. NoSetup a) (after w (sets_up s)) xs → (run_singles (after w (sets_up s)) xs).mux.setting.special ≡ s.special
set_since w s xs z h = ap (λ (t : Setting). t.special) (run_setting (after w (sets_up s)) xs h ∙ brings_setting w s z)
