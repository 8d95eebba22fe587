-- The two numbers of a wrong base, and what telling them apart changed (document 02, K1).
--   OnlyHigh                 a base that is too high and has no other fault that is asked before
--   misaligned_iff, too_high_iff   3 and 11, each in numbers: exactly where its row applies and none before it
--   bad_base_was, rows_was      row 3 and setup's table as document 01 has them: for the comparison alone
-- In proofs/laws/Base, since they rest on these: as_before, sound_as_before, calls_as_before.
-- Not here: the table itself, in specs/Refusals; the law for every row, in Refusals; setup, row 6 and the other calls by any rows, in Tables.
-- Assumes nothing.
use Rattle.std.specs.Prelude.{◌≡◌, refl, Bool, true, false, not, ◌||◌, List, [], ◌∷◌, ◌++◌, ◌↔◌, ℕ, ◌*◌, ◌%◌, ◌<◌, ◌≤◌, eqb, ltb}
use Rattle.std.proofs.Common.{sym, ◌∙◌, true≢false, arith}
use Rattle.ground.specs.Choose.{Row, row}
use Rattle.ground.specs.laws.Rows.{first_zero, first_at}
use Rattle.unit.specs.declared.mux.Setting.{Setting}
use Rattle.unit.specs.Record.{no_mux}
use Rattle.unit.specs.Reply.{refused}
use Rattle.unit.specs.Refusals.{MISALIGNED, TOO-HIGH, BAD-LOCATION, bad_block, bad_ports, misaligned, too_high, bad_location, crosses, size_rows, base_rows, area_rows, setting_rows, refusal, of_setup}
use Rattle.unit.specs.Setup.{setup}
use Rattle.unit.specs.Sound.{SizeFits}
use Rattle.unit.specs.laws.Refusals.{setup_refusal}
use Rattle.unit.specs.laws.Sound.{good_base, low_base, size_fits}
use Rattle.unit.specs.laws.Area.{five}
use Rattle.unit.specs.laws.Tables.{setup_by}

-- ---- the two numbers, each in numbers

-- rows 1 and 2 do not apply, the base is a multiple of 8b, and it is above 32767
pub record OnlyHigh (s : Setting) : Type 0 where
  pub size : SizeFits s
  pub aligned : s.base % (8 * s.block) ≡ 0
  pub high : 32767 < s.base

-- a test is true exactly where what it says when false does not hold
applies : (t : Bool) (P : Type 0) → (t ≡ false) ↔ P → (t ≡ true) ↔ (P → ⊥)
applies true P h = (λ _ p. true≢false (h.1 p), λ _. refl)
applies false P h = (λ e _. true≢false (sym e), λ n. absurd (n (h.0 refl)))

-- row 11 applies to a base above 32767, and to no other
high_base : (a : ℕ) → (too_high a ≡ true) ↔ (32767 < a)
high_base a =
    let h = applies (too_high a) (a ≤ 32767) (low_base a) in
    (λ e. let n = h.0 e in omega arith, λ l. h.1 (λ g. omega arith))

-- setup is refused with 3 exactly where its sizes pass and the base is no multiple of 8b
pub misaligned_iff : (s : Setting) → (refusal (of_setup s) ≡ MISALIGNED) ↔ (SizeFits s × (s.base % (8 * s.block) ≡ 0 → ⊥))
unfolding setting_rows size_rows base_rows area_rows
misaligned_iff s =
    let z = first_zero (size_rows s) refl in
    let l = first_at (size_rows s) (row MISALIGNED (misaligned s.block s.base)) (row TOO-HIGH (too_high s.base) ∷ row BAD-LOCATION (bad_location s.kind s.base) ∷ area_rows s) refl refl in (
      λ e. let p = l.0 (sym (setup_refusal s) ∙ e) in ((size_fits s).0 (z.1 p.0), (applies _ _ (good_base _ _)).0 p.1),
      λ h. setup_refusal s ∙ l.1 (z.0 ((size_fits s).1 h.0), (applies _ _ (good_base _ _)).1 h.1),
    )

-- and with 11 exactly where its sizes pass, and the base is a multiple of 8b and above 32767
pub too_high_iff : (s : Setting) → (refusal (of_setup s) ≡ TOO-HIGH) ↔ OnlyHigh s
unfolding setting_rows size_rows base_rows area_rows
too_high_iff s =
    let z = first_zero (size_rows s) refl in
    let l = first_at (size_rows s ++ (row MISALIGNED (misaligned s.block s.base) ∷ [])) (row TOO-HIGH (too_high s.base)) (row BAD-LOCATION (bad_location s.kind s.base) ∷ area_rows s) refl refl in (
      λ e. let p = l.0 (sym (setup_refusal s) ∙ e) in
          record {
            size = (size_fits s).0 (z.1 (p.0.0, (p.0.1.0, tt)));
            aligned = (good_base _ _).0 p.0.1.1.0;
            high = (high_base _).0 p.1;
          },
      λ h. let q = z.0 ((size_fits s).1 h.size) in
          setup_refusal s ∙ l.1 ((q.0, (q.1.0, ((good_base _ _).1 h.aligned, tt))), (high_base _).1 h.high),
    )

-- ---- setup as it was

-- row 3 as it was: the base is not a multiple of 8b, or is above 32767
unfoldable pub bad_base_was : ℕ → ℕ → Bool
bad_base_was b a = not (eqb (a % (8 * b)) 0) || ltb 32767 a

-- rows 1 to 5; the tests of 1, 2 and 4 are today's, and 5 is as K10 found it
unfoldable pub rows_was : Setting → List Row
rows_was s =
    row 1 (bad_block s.block)
    ∷ row 2 (bad_ports s.ports)
    ∷ row 3 (bad_base_was s.block s.base)
    ∷ row 4 (crosses s.block s.ports s.base)
    ∷ five s
    ∷ []

-- ---- what changed

-- a setup answers as it did, but for one case
pub record AsBefore (s : Setting) : Type 0 where
  -- what was taken is taken, with the same record, and nothing else is
  pub was_taken : (setup_by rows_was s).reply.code ≡ 0 → setup s ≡ setup_by rows_was s
  pub is_taken : (setup s).reply.code ≡ 0 → setup s ≡ setup_by rows_was s
  -- a base that is only too high had 3 and has 11
  pub changed : OnlyHigh s → (setup_by rows_was s ≡ refused 3 no_mux) × (setup s ≡ refused 11 no_mux)
  -- any other answer is the same, number and record
  pub same : (OnlyHigh s → ⊥) → setup s ≡ setup_by rows_was s
