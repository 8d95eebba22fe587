-- Laws of the table of refusals (document 01, of that name).
--   by_setting, setting_unsound, setting_passed   row 6 has no list of its own: a record is unsound whose setting setup would refuse, whatever the row; of another the rest is asked
-- Here, and not in specs/laws/Refusals, is what rests on other laws of specs/: an edit of a definition counts as refused where nothing in specs/ rests on the
-- law that it breaks.
-- Assumes nothing.
use Rattle.std.specs.Prelude.{◌≡◌, true, false, ◌||◌, leb}
use Rattle.std.proofs.Common.{sym, ◌∙◌, eq-eqb, ne_eqb}
use Rattle.interrupt.specs.Interrupt as Interrupt
use Rattle.unit.specs.declared.mux.Mux.{Mux}
use Rattle.unit.specs.Refusals.{unsound, refusal, of_setup}
use Rattle.unit.specs.laws.Refusals.{setup_refusal, by_setting}

-- ---- setup's number and row 6

-- a record whose setting setup would refuse is unsound
pub setting_unsound : (u : Mux) → (refusal (of_setup u.setting) ≡ 0 → ⊥) → unsound u ≡ true
setting_unsound u n = by_setting u false (ne_eqb _ _ (λ e. n (setup_refusal u.setting ∙ e)))

-- of another its position and its interrupt side are asked
pub setting_passed : (u : Mux) → refusal (of_setup u.setting) ≡ 0 → unsound u ≡ (leb u.setting.ports u.pos || Interrupt.unsound u.irq)
setting_passed u e = by_setting u true (eq-eqb _ _ (sym (setup_refusal u.setting) ∙ e))
