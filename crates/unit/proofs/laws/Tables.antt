-- Setup, row 6 and the table of the other calls, by any rows for a setting: how today's rows are compared with those that a request changed.
--   same_sound, same_calls           such rows refuse the same records of that kind, and every call on them, which is no setup, by the same number
-- Here, and not in specs/laws/Tables, is what rests on other laws of specs/: an edit of a definition counts as refused where nothing in specs/ rests on the
-- law that it breaks.
-- Assumes nothing.
use Rattle.std.specs.Prelude.{◌≡◌, List, eqb}
use Rattle.std.proofs.Math.Path.{refl}
use Rattle.std.proofs.Math.Option.{Option, some, none}
use Rattle.ground.specs.Choose.{asked, Row, first_of}
use Rattle.interrupt.specs.declared.Kind.TheVariants.{Eds8}
use Rattle.unit.specs.declared.mux.Setting.{Setting}
use Rattle.unit.specs.declared.mux.Mux.{Mux}
use Rattle.unit.specs.Refusals.{unsound, Given, rows_of, call_rows, table_of, refusal}
use Rattle.unit.specs.laws.Refusals.{by_setting}
use Rattle.unit.specs.laws.Tables.{unsound_by, call_rows_by, Alike, OfEds8}

-- ---- rows as they were, and today's

module _ (was : Setting → List Row) (alike : Alike was) where
  -- so they refuse the same records of that kind
  pub same_sound : (u : Mux) → u.setting.kind ≡ Eds8 → unsound u ≡ unsound_by was u
  unfolding unsound_by
  same_sound u k = by_setting u (eqb (first_of (was u.setting)) 0) (alike u.setting k)

  -- of a record that may be absent, too
  same_asked : (u : Option Mux) → ((v : Mux) → u ≡ some v → v.setting.kind ≡ Eds8) → asked u (λ v. unsound v) ≡ asked u (λ v. unsound_by was v)
  unfolding asked
  same_asked none k = refl
  same_asked (some u) k = same_sound u (k u refl)

  -- and every call on such a record, which is no setup, by the same number
  pub same_calls : (g : Given) → g.setting ≡ none → OfEds8 g → refusal g ≡ first_of (call_rows_by was g)
  unfolding refusal table_of rows_of call_rows call_rows_by
  same_calls g e k = rw (e, same_asked g.unit k)
