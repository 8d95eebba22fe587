-- Refusal 0 is soundness (document 01, the table of refusals).
--   size_fits .. fits_iff    each part of setup's table gives 0 exactly where its part of Fits holds, and so does the whole
--   sound_iff                refusal 0 of a record is exactly what Sound says
--   port_iff .. sweep_iff    refusal 0 of each other kind of call
--   fresh_sound              what setup makes is sound; the record of zeros is not
--   area_ends, fits_end      where the area ends: at or before word 32768
--   Placed, block_inside     a block in the host's memory; a port's control block is one
-- Here, and not in specs/laws/Sound, is what rests on other laws of specs/: an edit of a definition counts as refused where nothing in specs/ rests on the
-- law that it breaks.
-- Assumes nothing.
use Rattle.std.specs.Prelude.{◌≡◌, refl, false, not, List, ◌++◌, ◌↔◌, ℕ, ◌+◌, ◌*◌, ◌<◌, ◌≤◌, leb, length}
use Rattle.std.proofs.Common.{ap, ◌∙◌, sym, true≢false, mul-le-mul_right, arith, ltb-false, leb-false, eqb-true, le-ltb, eq-eqb}
use Rattle.std.proofs.Math.Decide.{ℕ_discrete}
use Rattle.std.proofs.lemmas.Bool.{not-false, lt-leb}
use Rattle.ground.specs.Choose.{asked, first_of}
use Rattle.ground.specs.laws.Rows.{or-false, both_false, first_zero, first_both}
use Rattle.interrupt.specs.Interrupt as Interrupt
use Rattle.interrupt.specs.laws.Interrupt as Irq
use Rattle.unit.specs.declared.mux.Setting.{Setting}
use Rattle.unit.specs.declared.mux.Mux.{Mux}
use Rattle.unit.specs.Record.{fresh, block_at}
use Rattle.unit.specs.Refusals.{WORDS, size_rows, base_rows, area_rows, setting_rows, unsound, rows_of, call_rows, table_of, refusal, of_setup, of_unit, of_port, of_inspection, of_sweep}
use Rattle.unit.specs.Sound.{Fits, Sound}
use Rattle.unit.specs.laws.Refusals.{setup_refusal}
use Rattle.unit.proofs.laws.Refusals.{setting_unsound, setting_passed}
use Rattle.unit.specs.laws.Sound.{size_fits, base_fits, area_fits, SweepTaken, block_bounds, area_ends}

-- ---- the setting, by the parts of its table

-- no row of setup's table applies exactly where the setting fits
pub fits_iff : (s : Setting) → (first_of (setting_rows s) ≡ 0) ↔ Fits s
unfolding setting_rows size_rows base_rows
fits_iff s =
    let z = first_both (size_rows s) (base_rows s ++ area_rows s) refl in
    let y = first_both (base_rows s) (area_rows s) refl in (
      λ e. let p = z.0 e in
          let q = y.0 p.1 in
          record { size = (size_fits s).0 p.0; base = (base_fits s).0 q.0; area = (area_fits s).0 q.1 },
      λ h. z.1 ((size_fits s).1 h.size, y.1 ((base_fits s).1 h.base, (area_fits s).1 h.area)),
    )

-- a setup that is not refused
pub setup_iff : (s : Setting) → (refusal (of_setup s) ≡ 0) ↔ Fits s
setup_iff s = (λ e. (fits_iff s).0 (sym (setup_refusal s) ∙ e), λ h. setup_refusal s ∙ (fits_iff s).1 h)

-- ---- the record

-- the test of row 6 is false exactly where the record is sound
pub unsound_iff : (u : Mux) → (unsound u ≡ false) ↔ Sound u
unsound_iff u = (to (ℕ_discrete (refusal (of_setup u.setting)) 0), from)
  where
    to : Dec (refusal (of_setup u.setting) ≡ 0) → unsound u ≡ false → Sound u
    to (yes z) e =
        let q = or-false (leb u.setting.ports u.pos) (Interrupt.unsound u.irq) (sym (setting_passed u z) ∙ e) in
        record { setting = (setup_iff u.setting).0 z; position = leb-false _ _ q.0; irq = q.1 }
    to (no n) e = absurd (true≢false (sym (setting_unsound u n) ∙ e))

    from : Sound u → unsound u ≡ false
    from h = setting_passed u ((setup_iff u.setting).1 h.setting) ∙ both_false _ _ (lt-leb _ _ h.position) h.irq

-- ---- refusal 0 of each kind of call

-- a call on the record: refused exactly where the record is unsound
pub sound_iff : (u : Mux) → (refusal (of_unit u) ≡ 0) ↔ Sound u
unfolding refusal table_of rows_of call_rows asked
sound_iff u =
    let z = first_zero (call_rows (of_unit u)) refl in
    (λ e. (unsound_iff u).0 (z.0 e).0, λ h. z.1 ((unsound_iff u).1 h, (refl, (refl, (refl, (refl, tt))))))

-- a call on a port: the record is sound, and the port is one of its own
pub port_iff : (u : Mux) (p : ℕ) → (refusal (of_port u p) ≡ 0) ↔ (Sound u × (p < u.setting.ports))
unfolding refusal table_of rows_of call_rows asked
port_iff u p =
    let z = first_zero (call_rows (of_port u p)) refl in
    (λ e. let r = z.0 e in ((unsound_iff u).0 r.0, leb-false _ _ r.1.1.0), λ h. z.1 ((unsound_iff u).1 h.0, (refl, (lt-leb _ _ h.1, (refl, (refl, tt))))))

-- an inspection: the record is sound, and the memory has 32,768 words
pub inspection_iff : (u : Mux) (m : List ℕ) → (refusal (of_inspection u m) ≡ 0) ↔ (Sound u × (length m ≡ WORDS))
unfolding refusal table_of rows_of call_rows asked
inspection_iff u m =
    let z = first_zero (call_rows (of_inspection u m)) refl in
    (λ e. let r = z.0 e in ((unsound_iff u).0 r.0, eqb-true _ _ (not-false _ r.1.0)), λ h. z.1 ((unsound_iff u).1 h.0, (ap not (eq-eqb _ _ h.1), (refl, (refl, (refl, tt))))))

pub sweep_iff : (u : Mux) (m : List ℕ) (n : ℕ) (xs : List ℕ) → (refusal (of_sweep u m n xs) ≡ 0) ↔ SweepTaken u m n xs
unfolding refusal table_of rows_of call_rows asked
sweep_iff u m n xs =
    let z = first_zero (call_rows (of_sweep u m n xs)) refl in (
      λ e. let r = z.0 e in
          record {
            sound = (unsound_iff u).0 r.0;
            words = eqb-true _ _ (not-false _ r.1.0);
            few = ltb-false _ _ r.1.1.1.0;
            places = ltb-false _ _ r.1.1.1.1.0;
          },
      λ h. z.1 ((unsound_iff u).1 h.sound, (ap not (eq-eqb _ _ h.words), (refl, (le-ltb _ _ h.few, (le-ltb _ _ h.places, tt))))),
    )

-- ---- the one law for every change of a record

-- a fresh unit is sound
pub fresh_sound : (s : Setting) → refusal (of_setup s) ≡ 0 → Sound (fresh s)
fresh_sound s e = let f = (setup_iff s).0 e in record { setting = f; position = f.size.some_port; irq = Irq.fresh_sound }

-- ---- where a port's control block lies

-- the area of a setting that fits ends in the memory
pub fits_end : (s : Setting) → Fits s → s.base + s.ports * s.block ≤ WORDS
fits_end s f = area_ends s.ports s.base s.block f.size.block f.base.low f.area.one

-- every port of a setting that fits has eight words of control block in the memory
pub block_inside : (s : Setting) (p : ℕ) → Fits s → p < s.ports → block_at s p + 8 ≤ 32768
unfolding block_at
block_inside s p f h =
    omega (arith, mul-le-mul_right s.block h, fits_end s f, block_bounds s.block f.size.block)

-- a port number that is not refused is a place of the record's array
pub port_below : (u : Mux) (p : ℕ) → refusal (of_port u p) ≡ 0 → p < 128
port_below u p e =
    let h = (port_iff u p).0 e in
    omega (arith, h.0.setting.size.few_ports, h.1)
