-- Refusal 0 is soundness (document 01, the table of refusals).
--   good_block .. good_area  each row of the setting, read in numbers
--   size_fits .. fits_iff    each part of setup's table gives 0 exactly where its part of Fits holds, and so does the whole
--   sound_with               what keeps the setting, with a position below P and a sound interrupt side, keeps soundness: the one law for every change of a record
--   by_block                 what holds at each block size holds of any
--   sizes                    the sizes that pass, in numbers
--   area_ends, fits_end      where the area ends: at or before word 32768
--   Placed, block_inside     a block in the host's memory; a port's control block is one
-- In proofs/laws/Sound, since they rest on these: fits_iff, setup_iff, unsound_iff, sound_iff, port_iff, inspection_iff, sweep_iff, fresh_sound, fits_end,
-- block_inside, port_below.
-- Not here: what fits and what is sound, in specs/Sound; what a refused call leaves, in Replies.
-- Assumes nothing.
use Rattle.std.specs.Prelude.{◌≡◌, refl, true, false, not, ◌||◌, List, ◌↔◌, ◌⊎◌, ℕ, ◌+◌, ◌-◌, ◌*◌, ◌/◌, ◌%◌, ◌<◌, ◌≤◌, eqb, ltb, length}
use Rattle.std.proofs.Common.{ap, inl, inr, mul-pos, mul-le-mul, arith, ltb-false, eqb-true, le-ltb, eq-eqb, ne_eqb}
use Rattle.std.proofs.lemmas.Bool.{eqb-false, not-false}
use Rattle.ground.specs.Choose.{first_of}
use Rattle.ground.specs.laws.Rows.{or-false, or-true, both_false, first_zero}
use Rattle.interrupt.specs.declared.Kind.{Kind}
use Rattle.interrupt.specs.declared.Kind.TheVariants.{Eds8, MightyMux}
use Rattle.interrupt.specs.Interrupt as Interrupt
use Rattle.unit.specs.declared.mux.Setting.{Setting}
use Rattle.unit.specs.declared.mux.Mux.{Mux}
use Rattle.unit.specs.Record.{no_mux}
use Rattle.unit.specs.Refusals.{WORDS, MOST-PORTS, MOST-INSPECTIONS, AREA-STEP, bad_block, bad_ports, misaligned, too_high, bad_location, crosses, size_rows, base_rows, area_rows}
use Rattle.unit.specs.Sound.{IsBlock, eight, sixteen, thirty_two, SizeFits, BaseFits, AreaFits, Sound}

-- ---- the rows, read in numbers

-- row 1 does not apply to a block size of 8, 16 or 32, and to no other
pub good_block : (b : ℕ) → (bad_block b ≡ false) ↔ IsBlock b
unfolding bad_block
good_block b = (λ e. read (or-true (eqb b 8) (eqb b 16 || eqb b 32) (not-false _ e)), back)
  where
    second : (eqb b 16 ≡ true) ⊎ (eqb b 32 ≡ true) → IsBlock b
    second (inl e) = sixteen (eqb-true b 16 e)
    second (inr e) = thirty_two (eqb-true b 32 e)

    read : (eqb b 8 ≡ true) ⊎ ((eqb b 16 || eqb b 32) ≡ true) → IsBlock b
    read (inl e) = eight (eqb-true b 8 e)
    read (inr e) = second (or-true (eqb b 16) (eqb b 32) e)

    back : IsBlock b → not (eqb b 8 || (eqb b 16 || eqb b 32)) ≡ false
    back (eight e) = rw e
    back (sixteen e) = rw e
    back (thirty_two e) = rw e

-- row 2 does not apply to 1 to 128 ports, and to no other
pub good_ports : (n : ℕ) → (bad_ports n ≡ false) ↔ ((0 < n) × (n ≤ 128))
unfolding bad_ports
good_ports n = (to, λ h. both_false (eqb n 0) (ltb MOST-PORTS n) (ne_eqb n 0 (omega arith)) (le-ltb 128 n h.1))
  where
    to : (eqb n 0 || ltb 128 n) ≡ false → (0 < n) × (n ≤ 128)
    to e =
        let p = or-false (eqb n 0) (ltb 128 n) e in
        let z : n ≡ 0 → ⊥ = eqb-false n 0 p.0 in
        (omega arith, ltb-false 128 n p.1)

-- row 3 does not apply to a base that is a multiple of 8b, and to no other
pub good_base : (b a : ℕ) → (misaligned b a ≡ false) ↔ (a % (8 * b) ≡ 0)
unfolding misaligned
good_base b a = (λ e. eqb-true _ _ (not-false _ e), λ h. ap not (eq-eqb _ _ h))

-- row 11 does not apply to a base of at most 32767, and to no other
pub low_base : (a : ℕ) → (too_high a ≡ false) ↔ (a ≤ 32767)
unfolding too_high
low_base a = (λ e. ltb-false 32767 a e, λ h. le-ltb 32767 a h)

-- row 12 does not apply to a Mighty Mux's base that is a multiple of octal 400, to no other of that kind, and to an EDS-8's never
pub good_location : (k : Kind) (a : ℕ) → (bad_location k a ≡ false) ↔ (k ≡ MightyMux → a % AREA-STEP ≡ 0)
unfolding bad_location
good_location Eds8 a = (λ _ e. cc, λ _. refl)
good_location MightyMux a = (λ e _. eqb-true _ _ (not-false _ e), λ h. ap not (eq-eqb _ _ (h refl)))

-- row 4 does not apply where the area crosses no multiple of 128b, and nowhere else
pub good_area : (b n a : ℕ) → (crosses b n a ≡ false) ↔ (a / (128 * b) ≡ (a + n * b - 1) / (128 * b))
unfolding crosses
good_area b n a = (λ e. eqb-true _ _ (not-false _ e), λ h. ap not (eq-eqb _ _ h))

-- ---- the setting, by the parts of its table

pub size_fits : (s : Setting) → (first_of (size_rows s) ≡ 0) ↔ SizeFits s
unfolding size_rows
size_fits s =
    let z = first_zero (size_rows s) refl in (
      λ e. let p = z.0 e in
          let n = (good_ports _).0 p.1.0 in
          record { block = (good_block _).0 p.0; some_port = n.0; few_ports = n.1 },
      λ h. z.1 ((good_block _).1 h.block, ((good_ports _).1 (h.some_port, h.few_ports), tt)),
    )

pub base_fits : (s : Setting) → (first_of (base_rows s) ≡ 0) ↔ BaseFits s
unfolding base_rows
base_fits s =
    let z = first_zero (base_rows s) refl in (
      λ e. let p = z.0 e in
          record { aligned = (good_base _ _).0 p.0; low = (low_base _).0 p.1.0; located = (good_location _ _).0 p.1.1.0 },
      λ h. z.1 ((good_base _ _).1 h.aligned, ((low_base _).1 h.low, ((good_location _ _).1 h.located, tt))),
    )

pub area_fits : (s : Setting) → (first_of (area_rows s) ≡ 0) ↔ AreaFits s
unfolding area_rows
area_fits s =
    let z = first_zero (area_rows s) refl in (
      λ e. let p = z.0 e in record { one = (good_area _ _ _).0 p.0 },
      λ h. z.1 ((good_area _ _ _).1 h.one, tt),
    )

-- ---- refusal 0 of each kind of call

-- a sweep: as an inspection, with at most 4,096 inspections and a list place for each
pub record SweepTaken (u : Mux) (m : List ℕ) (n : ℕ) (xs : List ℕ) : Type 0 where
  pub sound : Sound u
  pub words : length m ≡ WORDS
  pub few : n ≤ MOST-INSPECTIONS
  pub places : n ≤ length xs

-- ---- the one law for every change of a record

-- what keeps the setting, has its position below P and a sound interrupt side is as sound as it was
pub sound_with : (u v : Mux) → v.setting ≡ u.setting → v.pos < v.setting.ports → (Interrupt.unsound u.irq ≡ false → Interrupt.unsound v.irq ≡ false) → Sound u → Sound v
sound_with u v e h i s = record { setting = rw e s.setting; position = h; irq = i s.irq }

-- the record of zeros is unsound
pub zeros_unsound : Sound no_mux → ⊥
zeros_unsound s = let h : 0 < 0 = s.position in omega arith

-- ---- where a port's control block lies

-- what holds at each block size holds of any
pub by_block : (F : ℕ → Type 0) → F 8 → F 16 → F 32 → (b : ℕ) → IsBlock b → F b
by_block F x y z b (eight e) = rw e x
by_block F x y z b (sixteen e) = rw e y
by_block F x y z b (thirty_two e) = rw e z

-- a block has eight words at least, and thirty-two at most
pub block_bounds : (b : ℕ) → IsBlock b → (8 ≤ b) × (b ≤ 32)
block_bounds = by_block (λ b. (8 ≤ b) × (b ≤ 32)) (omega arith) (omega arith) (omega arith)

-- the sizes in numbers: at most 128 blocks of at most 32 words have at most 4,096 words, and at least one
pub record Sizes (s : Setting) : Type 0 where
  pub least : 8 ≤ s.block
  pub most : s.block ≤ 32
  pub some : 0 < s.ports * s.block
  pub area : s.ports * s.block ≤ 4096

pub sizes : (s : Setting) → SizeFits s → Sizes s
sizes s f =
    let b = block_bounds s.block f.block in
    record { least = b.0; most = b.1; some = mul-pos f.some_port (omega arith); area = mul-le-mul f.few_ports b.1 }

-- an area that begins at or below word 32767 and crosses no multiple of 128b ends at or before word 32768
abbrev Ends : ℕ → ℕ → ℕ → Type 0
Ends n a b = a ≤ 32767 → a / (128 * b) ≡ (a + n * b - 1) / (128 * b) → a + n * b ≤ 32768

-- 32768 is such a multiple, for each block size
pub area_ends : (n a b : ℕ) → IsBlock b → Ends n a b
area_ends n a = by_block (Ends n a) (λ l o. omega arith) (λ l o. omega arith) (λ l o. omega arith)

-- the host's memory with a whole block at the word a
pub record Placed (m : List ℕ) (a : ℕ) : Type 0 where
  pub words : length m ≡ WORDS
  pub inside : a + 8 ≤ WORDS
