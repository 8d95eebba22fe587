-- Setup, row 6 and the table of the other calls, by any rows for a setting: how today's rows are compared with those that a request changed.
--   setup_by, unsound_by, call_rows_by   the three, by the rows that are given
--   same_setup                       rows that give a setting the number that it has answer its setup as it is answered
--   Alike, alike_by                  rows that let the same settings of an EDS-8 pass as today's: so they do where they give each the number that it has
--   OfEds8                           a call on an EDS-8's record
-- In proofs/laws/Tables, since they rest on these: same_sound, same_calls.
-- Not here: rows as they were, in Location, Area and Base.
-- Assumes nothing.
use Rattle.std.specs.Prelude.{◌≡◌, Bool, not, ◌||◌, List, ◌∷◌, ℕ, eqb, leb, drop}
use Rattle.std.proofs.Common.{sym, ap, ◌∙◌}
use Rattle.std.proofs.Math.Option.{some}
use Rattle.ground.specs.Choose.{asked, Row, row, first_of}
use Rattle.interrupt.specs.declared.Kind.TheVariants.{Eds8}
use Rattle.interrupt.specs.Interrupt as Interrupt
use Rattle.unit.specs.declared.mux.Setting.{Setting}
use Rattle.unit.specs.declared.mux.Mux.{Mux}
use Rattle.unit.specs.Reply.{Replied}
use Rattle.unit.specs.Record.{fresh, no_mux}
use Rattle.unit.specs.Reply.{accepted, guarded}
use Rattle.unit.specs.Refusals.{UNSOUND, setting_rows, Given, call_rows, refusal, of_setup}
use Rattle.unit.specs.Setup.{setup}
use Rattle.unit.specs.laws.Refusals.{setup_refusal}

-- ---- by any rows

-- setup
unfoldable pub setup_by : (Setting → List Row) → Setting → Replied
setup_by rows s = guarded (first_of (rows s)) no_mux (accepted 0 (fresh s))

-- row 6
unfoldable pub unsound_by : (Setting → List Row) → Mux → Bool
unsound_by rows u =
    not (eqb (first_of (rows u.setting)) 0)
    || (leb u.setting.ports u.pos || Interrupt.unsound u.irq)

-- the table of every call but setup: rows 7 to 10 are today's
unfoldable pub call_rows_by : (Setting → List Row) → Given → List Row
call_rows_by rows g = row UNSOUND (asked g.unit (λ u. unsound_by rows u)) ∷ drop 1 (call_rows g)

-- ---- rows as they were, and today's

-- where they give a setting the number that it has, its setup answers so, number and record
pub same_setup : (was : Setting → List Row) (s : Setting) → refusal (of_setup s) ≡ first_of (was s) → setup s ≡ setup_by was s
unfolding setup setup_by
same_setup was s e = rw e

-- they let the same settings of an EDS-8 pass as today's
abbrev pub Alike : (Setting → List Row) → Type 0
Alike was = (s : Setting) → s.kind ≡ Eds8 → eqb (first_of (setting_rows s)) 0 ≡ eqb (first_of (was s)) 0

-- so they do where they give each the number that it has
pub alike_by : (was : Setting → List Row) → ((s : Setting) → s.kind ≡ Eds8 → refusal (of_setup s) ≡ first_of (was s)) → Alike was
alike_by was same s k = ap (λ (n : ℕ). eqb n 0) (sym (setup_refusal s) ∙ same s k)

-- a call whose record, if it has one, is an EDS-8's
abbrev pub OfEds8 : Given → Type 0
OfEds8 g = (u : Mux) → g.unit ≡ some u → u.setting.kind ≡ Eds8
