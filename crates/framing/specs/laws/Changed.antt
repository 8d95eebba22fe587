-- What is read of a frame that was changed on the way (document 02, K3).
--   ChangedBit, changed_bit   a data bit the other way
-- Each list is one that was written, with other cells in a baud or two of it; the cells are any bytes.
-- In proofs/laws/Changed, since they rest on these: any_break, broken_stop, any_marks, wrong_parity, both_marks, changed_bit.
-- Not here: lists that are no such change, in Any.
-- Assumes nothing.
use Rattle.std.specs.Prelude.{◌≡◌, true, false, List, length}
use Rattle.std.proofs.Common.{sym, ◌∙◌, arith}
use Rattle.std.proofs.Math.Path.{subst⁻¹}
use Prim.Native.Nat.{ℕ, suc, ◌+◌, ◌-◌, ◌*◌, ◌^◌, ◌<◌, ◌≤◌}
use Rattle.framing.specs.declared.form.Form.{Form}
use Rattle.framing.specs.Form.{data_bits, has_parity, first_stop, frame_cells}
use Rattle.framing.specs.Cells.{space, bit_at}
use Rattle.framing.specs.Read.{Frame, level, level_at}
use Rattle.framing.specs.laws.Form.{first_stop_lem, stop_checked, frame_cells_lem}
use Rattle.framing.specs.laws.Levels.{with_baud, changed_length, changed_first, changed_second, changed_else}
use Rattle.framing.specs.laws.Frames.{Sounds}

module _ (f : Form) (c q s t : ℕ) (cells : List ℕ) (fits : frame_cells f ≤ length cells) (h : Sounds f c q s t (level_at cells)) where
  -- another baud is as it was
  pub other : (j v w i : ℕ) → (i ≡ j → ⊥) → (level_at (with_baud cells j v w) (2 * i) ≡ level_at cells (2 * i)) × (level_at (with_baud cells j v w) (2 * i + 1) ≡ level_at cells (2 * i + 1))
  other j v w i n = (
    changed_else cells j v w (2 * i) (λ e. n (omega (arith, e))) (λ e. omega (arith, e)),
    changed_else cells j v w (2 * i + 1) (λ e. omega (arith, e)) (λ e. n (omega (arith, e))),
  )

  -- and so is the start
  start : (j v w : ℕ) → 0 < j → (level_at (with_baud cells j v w) 0 ≡ space) × (level_at (with_baud cells j v w) 1 ≡ space)
  start j v w p =
      let o = other j v w 0 (λ e. omega (arith, e, p)) in
      (o.0 ∙ h.start.0, o.1 ∙ h.start.1)

  -- the cells of the baud itself
  pub here : (j v w : ℕ) → j ≤ first_stop f → (level_at (with_baud cells j v w) (2 * j) ≡ level v) × (level_at (with_baud cells j v w) (2 * j + 1) ≡ level w)
  here j v w l = (
    changed_first cells j v w (omega (arith, l, fits, (frame_cells_lem f).0)),
    changed_second cells j v w (omega (arith, l, fits, (frame_cells_lem f).0)),
  )

  -- other cells in the first stop
  pub stop_changed : (v w : ℕ) → Sounds f c q (level v) (level w) (level_at (with_baud cells (first_stop f) v w))
  stop_changed v w =
      record {
        start = start (first_stop f) v w (omega (arith, (first_stop_lem f).0));
        bits = λ k l. let o = other (first_stop f) v w (suc k) (λ e. omega (arith, e, l, (first_stop_lem f).0)) in (o.0 ∙ (h.bits k l).0, o.1 ∙ (h.bits k l).1);
        parity = λ p. let o = other (first_stop f) v w (suc (data_bits f)) (λ e. omega (arith, e, stop_checked f p)) in (o.0 ∙ (h.parity p).0, o.1 ∙ (h.parity p).1);
        stop = here (first_stop f) v w (omega arith);
      }

  -- other cells of one level in the parity bit
  pub parity_changed : has_parity f ≡ true → (v w : ℕ) → level v ≡ level w → Sounds f c (level v) s t (level_at (with_baud cells (suc (data_bits f)) v w))
  parity_changed p v w e =
      record {
        start = start (suc (data_bits f)) v w (omega arith);
        bits = λ k l. let o = other (suc (data_bits f)) v w (suc k) (λ i. omega (arith, i, l)) in (o.0 ∙ (h.bits k l).0, o.1 ∙ (h.bits k l).1);
        parity = λ _. let o = here (suc (data_bits f)) v w (omega (arith, (first_stop_lem f).0)) in (o.0, o.1 ∙ sym e);
        stop = let o = other (suc (data_bits f)) v w (first_stop f) (λ i. omega (arith, i, stop_checked f p)) in (o.0 ∙ h.stop.0, o.1 ∙ h.stop.1);
      }

  pub changed_fits : (j v w : ℕ) → frame_cells f ≤ length (with_baud cells j v w)
  changed_fits j v w = subst⁻¹ (λ (n : ℕ). frame_cells f ≤ n) (changed_length cells j v w) fits

-- ---- a data bit of a written frame

-- what is read where data bit k is the other way: the character with that bit changed, and the parity mark where there is parity
pub record ChangedBit (f : Form) (c k : ℕ) (r : Frame) : Type 0 where
  pub code : r.code ≡ 0
  pub this : bit_at r.c k ≡ 1 - bit_at c k
  pub others : (j : ℕ) → j < data_bits f → (j ≡ k → ⊥) → bit_at r.c j ≡ bit_at c j
  pub below : r.c < 2 ^ data_bits f
  pub parity : r.parity ≡ has_parity f
  pub brk : r.brk ≡ false
  pub used : r.used ≡ frame_cells f
