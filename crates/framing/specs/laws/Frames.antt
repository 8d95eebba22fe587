-- What is read of a frame, over any form (document 02, K3).
--   heard, Sounds, sounds_read   the one law: levels that are a character's but for parity bit and first stop
-- In proofs/laws/Frames, since they rest on these: sounds_read, frame_sounds, written, written_fits, written_sounds, reads_back.
-- Not here: a frame that was changed on the way, in Changed; what any list gives, in Any; when reading is refused, in Refusals; every cell of a
-- written list, in Levels; that a form's cut is the base's own, in Eds8.
-- Assumes nothing.
use Rattle.std.specs.Prelude.{◌≡◌, Bool, ◌&&◌, ◌||◌, ◌⊎◌, ℕ, suc, ◌+◌, ◌-◌, ◌*◌, ◌^◌, ◌<◌, eqb, ltb}
use Rattle.std.proofs.Math.Path.{refl}
use Rattle.std.proofs.Common.{sym, ◌∙◌, inl, inr, add-one, arith, ltb-true, ltb-false, eq-eqb}
use Rattle.std.proofs.Math.Bool.{true, false, not}
use Rattle.std.proofs.Math.Nat.{mod-mod}
use Rattle.framing.specs.declared.form.Form.{Form}
use Rattle.framing.specs.Form.{data_bits, has_parity, first_stop, frame_cells}
use Rattle.framing.specs.Cells.{space, bit_at, limited, parity_bit}
use Rattle.framing.specs.Read.{Frame, data_of, parity_mark, break_mark}
use Rattle.framing.specs.laws.Form.{stop_checked, stop_unchecked}
use Rattle.framing.specs.laws.Data.{data_cut}
use Rattle.framing.specs.laws.Refusals.{Framed}

-- what a frame gives that is not refused: a character and its marks
abbrev pub heard : Form → ℕ → Bool → Bool → Frame
heard f c parity brk = record { code = 0; c = c; parity = parity; brk = brk; used = frame_cells f }

-- the levels are those of a frame of c, but that the parity bit is q, and the halves of the first stop are s and t
pub record Sounds (f : Form) (c q s t : ℕ) (g : ℕ → ℕ) : Type 0 where
  pub start : (g 0 ≡ space) × (g 1 ≡ space)
  pub bits : (k : ℕ) → k < data_bits f → (g (2 * suc k) ≡ bit_at c k) × (g (2 * suc k + 1) ≡ bit_at c k)
  pub parity : has_parity f ≡ true → (g (2 * suc (data_bits f)) ≡ q) × (g (2 * suc (data_bits f) + 1) ≡ q)
  pub stop : (g (2 * first_stop f) ≡ s) × (g (2 * first_stop f + 1) ≡ t)

-- a baud between start and stop is a data bit's or the parity bit's
pub data_or_parity : (f : Form) (j : ℕ) → 0 < j → j < first_stop f → ((j - 1 < data_bits f) × (j ≡ suc (j - 1))) ⊎ ((has_parity f ≡ true) × (j ≡ suc (data_bits f)))
data_or_parity f j a b = go (ltb (data_bits f) j) refl (has_parity f) refl
  where
    go : (t : Bool) → ltb (data_bits f) j ≡ t → (p : Bool) → has_parity f ≡ p → ((j - 1 < data_bits f) × (j ≡ suc (j - 1))) ⊎ ((has_parity f ≡ true) × (j ≡ suc (data_bits f)))
    go false e p h = inl (omega (arith, a, ltb-false (data_bits f) j e), omega (arith, a))
    go true e true h = inr (h, omega (arith, ltb-true (data_bits f) j e, b, stop_checked f h))
    go true e false h = absurd (omega (arith, ltb-true (data_bits f) j e, b, stop_unchecked f h))

module _ (f : Form) (c q s t : ℕ) (g : ℕ → ℕ) (h : Sounds f c q s t g) where
  pub sounds_framed : Framed f g
  sounds_framed = record { first = h.start.0; second = h.start.1; halves = λ j a b. go j (data_or_parity f j a b) }
    where
      go : (j : ℕ) → ((j - 1 < data_bits f) × (j ≡ suc (j - 1))) ⊎ ((has_parity f ≡ true) × (j ≡ suc (data_bits f))) → g (2 * j) ≡ g (2 * j + 1)
      go j (inl p) = let r = h.bits (j - 1) p.0 in rw p.1 (r.0 ∙ sym r.1)
      go j (inr p) = let r = h.parity p.0 in rw p.1 (r.0 ∙ sym r.1)

  pub sounds_data : data_of g (data_bits f) ≡ limited f c
  unfolding limited
  sounds_data = data_cut g c (data_bits f) (λ k l. (h.bits k l).0)

  pub sounds_parity : parity_mark f g (limited f c) ≡ (has_parity f && not (eqb q (parity_bit f c)))
  unfolding parity_mark parity_bit limited
  sounds_parity = go (has_parity f) refl
    where
      go : (p : Bool) → has_parity f ≡ p → (has_parity f && not (eqb (g (2 * (data_bits f + 1))) (parity_bit f (limited f c)))) ≡ (has_parity f && not (eqb q (parity_bit f c)))
      go false e = rw e refl
      go true e = rw (add-one (data_bits f), (h.parity e).0, mod-mod c (2 ^ data_bits f)) refl

  pub sounds_break : break_mark f g ≡ (eqb s space || eqb t space)
  unfolding break_mark
  sounds_break = rw (h.stop.0, h.stop.1) refl

-- ---- a frame as it was written

-- the parity bit that is asked for is no parity mark
pub unmarked : (p : Bool) (x : ℕ) → (p && not (eqb x x)) ≡ false
unmarked true x = rw (eq-eqb x x refl) refl
unmarked false x = refl
