-- Where the area ends, and what taking out its check changed: nothing (document 02, K10).
--   rows_end                 where rows 1, 11 and 4 do not apply the area ends at or before word 32768; rows 2 and 3 are not asked
--   taken_end                so it does of every setting that setup takes
--   five_idle, five_never    with it the table gives the number that it gives without it, and never 5
--   setup_unchanged          every setup of an EDS-8, of which K7 changed nothing, answers as it did, number and record
--   sound_unchanged, calls_unchanged   row 6 refuses the same records of that kind, and every other call on them is refused as it was
-- Here, and not in specs/laws/Area, is what rests on other laws of specs/: an edit of a definition counts as refused where nothing in specs/ rests on the
-- law that it breaks.
-- Assumes nothing.
use Rattle.std.specs.Prelude.{◌≡◌, refl, false, ◌+◌, ◌*◌, ◌≤◌, ltb}
use Rattle.std.proofs.Common.{sym, ◌∙◌, le-ltb}
use Rattle.std.proofs.Math.Option.{none}
use Rattle.ground.specs.Choose.{first_of}
use Rattle.ground.specs.laws.Rows.{first_zero, never, first_idle}
use Rattle.interrupt.specs.declared.Kind.TheVariants.{Eds8}
use Rattle.unit.specs.declared.mux.Setting.{Setting}
use Rattle.unit.specs.declared.mux.Mux.{Mux}
use Rattle.unit.specs.Refusals.{WORDS, bad_block, too_high, crosses, size_rows, area_rows, unsound, Given, refusal, of_setup}
use Rattle.unit.specs.Setup.{setup}
use Rattle.unit.specs.laws.Sound.{good_block, low_base, good_area, area_ends}
use Rattle.unit.proofs.laws.Sound.{setup_iff, fits_end}
use Rattle.unit.specs.laws.Location.{rows_before}
use Rattle.unit.proofs.laws.Location.{eds8_number}
use Rattle.unit.specs.laws.Tables.{setup_by, unsound_by, call_rows_by, same_setup, alike_by, OfEds8}
use Rattle.unit.proofs.laws.Tables.{same_sound, same_calls}
use Rattle.unit.specs.laws.Area.{five, rows_with_five}

-- ---- where the area ends

-- rows 1, 11 and 4 do not apply: the area ends at or before word 32768
pub rows_end : (s : Setting) → bad_block s.block ≡ false → too_high s.base ≡ false → crosses s.block s.ports s.base ≡ false → s.base + s.ports * s.block ≤ WORDS
rows_end s one eleven four =
    area_ends s.ports s.base s.block ((good_block _).0 one) ((low_base _).0 eleven) ((good_area _ _ _).0 four)

-- so it does of every setting that setup takes
pub taken_end : (s : Setting) → refusal (of_setup s) ≡ 0 → s.base + s.ports * s.block ≤ WORDS
taken_end s e = fits_end s ((setup_iff s).0 e)

-- ---- what changed

-- the row never was the first that applies
pub five_idle : (s : Setting) → first_of (rows_with_five s) ≡ first_of (rows_before s)
unfolding rows_with_five five rows_before size_rows area_rows
five_idle s = first_idle (rows_before s) (five s) idle
  where
    idle : first_of (rows_before s) ≡ 0 → ltb 32768 (s.base + s.ports * s.block) ≡ false
    idle e = let p = (first_zero (rows_before s) refl).0 e in le-ltb 32768 _ (rows_end s p.0 p.1.1.1.0 p.1.1.1.1.0)

-- so no setting had the number 5
pub five_never : (s : Setting) → first_of (rows_with_five s) ≡ 5 → ⊥
unfolding rows_before size_rows area_rows
five_never s e = never (rows_before s) 5 refl (sym (five_idle s) ∙ e)

-- an EDS-8 has the number that it had
same_number : (s : Setting) → s.kind ≡ Eds8 → refusal (of_setup s) ≡ first_of (rows_with_five s)
same_number s k = eds8_number s k ∙ sym (five_idle s)

-- its setup answers as it did, number and record
pub setup_unchanged : (s : Setting) → s.kind ≡ Eds8 → setup s ≡ setup_by rows_with_five s
setup_unchanged s k = same_setup rows_with_five s (same_number s k)

-- row 6 refuses the same records of that kind
pub sound_unchanged : (u : Mux) → u.setting.kind ≡ Eds8 → unsound u ≡ unsound_by rows_with_five u
sound_unchanged = same_sound rows_with_five (alike_by rows_with_five same_number)

-- so every call on such a record, which is no setup, is refused as it was
pub calls_unchanged : (g : Given) → g.setting ≡ none → OfEds8 g → refusal g ≡ first_of (call_rows_by rows_with_five g)
calls_unchanged = same_calls rows_with_five (alike_by rows_with_five same_number)
