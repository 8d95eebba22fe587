-- The two numbers of a wrong base, and what telling them apart changed (document 02, K1).
--   as_before                every setup of an EDS-8, of which K7 changed nothing, answers as it did, but for OnlyHigh: 11 in the place of 3
--   sound_as_before, calls_as_before   row 6 refuses the same records of that kind, and every other call on them is refused as it was
-- Here, and not in specs/laws/Base, is what rests on other laws of specs/: an edit of a definition counts as refused where nothing in specs/ rests on the
-- law that it breaks.
-- Assumes nothing.
use Rattle.std.specs.Prelude.{◌≡◌, refl, Bool, true, false, ◌||◌, [], ◌∷◌, ◌++◌, ℕ, eqb}
use Rattle.std.proofs.Common.{sym, ap, ◌∙◌, arith}
use Rattle.std.proofs.Math.Option.{none}
use Rattle.ground.specs.Choose.{pick, first_of}
use Rattle.ground.specs.laws.Rows.{never}
use Rattle.interrupt.specs.declared.Kind.TheVariants.{Eds8}
use Rattle.unit.specs.declared.mux.Setting.{Setting}
use Rattle.unit.specs.declared.mux.Mux.{Mux}
use Rattle.unit.specs.Reply.{Replied}
use Rattle.unit.specs.Record.{fresh, no_mux}
use Rattle.unit.specs.Reply.{refused, accepted, guarded}
use Rattle.unit.specs.Refusals.{TOO-HIGH, bad_block, bad_ports, misaligned, too_high, size_rows, area_rows, unsound, Given, refusal, of_setup}
use Rattle.unit.specs.Setup.{setup}
use Rattle.unit.specs.laws.Refusals.{setup_refusal}
use Rattle.unit.specs.laws.Location.{rows_before}
use Rattle.unit.proofs.laws.Location.{eds8_number}
use Rattle.unit.specs.laws.Area.{five, rows_with_five}
use Rattle.unit.proofs.laws.Area.{five_idle}
use Rattle.unit.specs.laws.Tables.{setup_by, unsound_by, call_rows_by, same_setup, Alike, OfEds8}
use Rattle.unit.proofs.laws.Tables.{same_sound, same_calls}
use Rattle.unit.specs.laws.Base.{too_high_iff, bad_base_was, rows_was, AsBefore}

-- ---- what changed

-- the numbers of the two tables: the same, or 11 where it was 3
data Numbers (now was : ℕ) : Type 0 where
  equal : now ≡ was → Numbers now was
  apart : now ≡ TOO-HIGH → was ≡ 3 → Numbers now was

-- whatever the tests of their first rows are
by_tests : (a b m h : Bool) (k : ℕ) → Numbers (pick a 1 (pick b 2 (pick m 3 (pick h 11 k)))) (pick a 1 (pick b 2 (pick (m || h) 3 k)))
unfolding pick
by_tests true b m h k = equal refl
by_tests false true m h k = equal refl
by_tests false false true h k = equal refl
by_tests false false false true k = apart refl refl
by_tests false false false false k = equal refl

numbers : (s : Setting) → s.kind ≡ Eds8 → Numbers (refusal (of_setup s)) (first_of (rows_was s))
unfolding rows_before size_rows area_rows rows_with_five rows_was bad_base_was misaligned too_high first_of
numbers s k =
    rw (eds8_number s k, ← five_idle s)
    (by_tests (bad_block s.block) (bad_ports s.ports) (misaligned s.block s.base) (too_high s.base) (first_of (area_rows s ++ (five s ∷ []))))

pub as_before : (s : Setting) → s.kind ≡ Eds8 → AsBefore s
unfolding setup setup_by guarded pick rows_was five
as_before s k = go (numbers s k)
  where
    answer : ℕ → Replied
    answer k = guarded k no_mux (accepted 0 (fresh s))

    go : Numbers (refusal (of_setup s)) (first_of (rows_was s)) → AsBefore s
    go (equal e) =
        let w = same_setup rows_was s e in
        record {
          was_taken = λ _. w;
          is_taken = λ _. w;
          changed = λ h. absurd (never (rows_was s) TOO-HIGH refl (sym e ∙ (too_high_iff s).1 h));
          same = λ _. w;
        }
    go (apart now was) =
        let three : setup_by rows_was s ≡ refused 3 no_mux = ap answer was in
        let eleven : setup s ≡ refused 11 no_mux = ap answer now in
        record {
          was_taken = λ e. let z : ◌≡◌ {A = ℕ} 3 0 = sym (ap (λ r. r.reply.code) three) ∙ e in absurd (omega arith);
          is_taken = λ e. let z : ◌≡◌ {A = ℕ} 11 0 = sym (ap (λ r. r.reply.code) eleven) ∙ e in absurd (omega arith);
          changed = λ _. (three, eleven);
          same = λ h. absurd (h ((too_high_iff s).0 now));
        }

-- both tables give 0 together
zero_together : (now was : ℕ) → Numbers now was → eqb now 0 ≡ eqb was 0
zero_together now was (equal e) = rw e
zero_together now was (apart e f) = rw (e, f)

-- the two tables let the same settings of an EDS-8 pass
same_pass : Alike rows_was
same_pass s k = zero_together _ _ (rw (setup_refusal s) at (numbers s k))

-- row 6 refuses the same records of that kind
pub sound_as_before : (u : Mux) → u.setting.kind ≡ Eds8 → unsound u ≡ unsound_by rows_was u
sound_as_before = same_sound rows_was same_pass

-- so every call on such a record, which is no setup, is refused as it was
pub calls_as_before : (g : Given) → g.setting ≡ none → OfEds8 g → refusal g ≡ first_of (call_rows_by rows_was g)
calls_as_before = same_calls rows_was same_pass
