-- What is read of a frame, over any form (document 02, K3).
--   heard, Sounds, sounds_read   the one law: levels that are a character's but for parity bit and first stop
--   frame_sounds, reads_back     a frame as it was written
-- Here, and not in specs/laws/Frames, is what rests on other laws of specs/: an edit of a definition counts as refused where nothing in specs/ rests on the
-- law that it breaks.
-- Assumes nothing.
use Rattle.std.specs.Prelude.{◌≡◌, Bool, ◌&&◌, ◌||◌, List, ℕ, suc, ◌+◌, ◌*◌, ◌<◌, ◌≤◌, eqb, length}
use Rattle.std.proofs.Math.Path.{refl, subst⁻¹}
use Rattle.std.proofs.Common.{◌∙◌, ap, arith}
use Rattle.std.proofs.Math.Bool.{false, not}
use Rattle.framing.specs.declared.form.Form.{Form}
use Rattle.framing.specs.Form.{data_bits, has_parity, first_stop, frame_cells}
use Rattle.framing.specs.Cells.{space, mark, bit_at, limited, parity_bit, baud, frame_cell}
use Rattle.framing.specs.Write.{write_frame}
use Rattle.framing.specs.Read.{level_at, frame_read, read_frame}
use Rattle.framing.specs.laws.Form.{first_stop_lem, stop_checked, frame_cells_lem}
use Rattle.framing.specs.laws.Cells.{baud_start, first_half_lem, second_half}
use Rattle.framing.proofs.laws.Cells.{baud_data, baud_parity, baud_stop}
use Rattle.framing.specs.laws.Refusals.{framed_iff}
use Rattle.framing.proofs.laws.Refusals.{read_good}
use Rattle.framing.specs.laws.Levels.{cells_length}
use Rattle.framing.proofs.laws.Levels.{written_level}
use Rattle.framing.specs.laws.Frames.{heard, Sounds, sounds_framed, sounds_data, sounds_parity, sounds_break, unmarked}

-- the one law
pub sounds_read : (f : Form) (c q s t : ℕ) (cells : List ℕ) → frame_cells f ≤ length cells → Sounds f c q s t (level_at cells) → read_frame f cells ≡ heard f (limited f c) (has_parity f && not (eqb q (parity_bit f c))) (eqb s space || eqb t space)
unfolding frame_read
sounds_read f c q s t cells l h =
    let g = level_at cells in
    read_good f cells l ((framed_iff f cells).1 (sounds_framed f c q s t g h))
    ∙ rw (sounds_data f c q s t g h, sounds_parity f c q s t g h, sounds_break f c q s t g h) refl

-- ---- a frame as it was written

-- levels that are the frame's up to the end of the first stop
pub frame_sounds : (f : Form) (c : ℕ) (g : ℕ → ℕ) → ((i : ℕ) → i < 2 * first_stop f + 2 → g i ≡ frame_cell f c i) → Sounds f c (parity_bit f c) mark mark g
frame_sounds f c g e =
    record {
      start = (e 0 (omega arith) ∙ first_half_lem f c 0 ∙ baud_start f c, e 1 (omega arith) ∙ second_half f c 0 ∙ baud_start f c);
      bits = λ k l. bauds (suc k) (bit_at c k) (omega (arith, l, (first_stop_lem f).0)) (bit k l);
      parity = λ p. bauds (suc (data_bits f)) (parity_bit f c) (omega (arith, (first_stop_lem f).0)) (baud_parity f c (suc (data_bits f)) (omega arith) (omega (arith, stop_checked f p)));
      stop = bauds (first_stop f) mark (omega arith) (baud_stop f c (first_stop f) (omega arith));
    }
  where
    bauds : (j x : ℕ) → j ≤ first_stop f → baud f c j ≡ x → (g (2 * j) ≡ x) × (g (2 * j + 1) ≡ x)
    bauds j x l b = (e (2 * j) (omega (arith, l)) ∙ first_half_lem f c j ∙ b, e (2 * j + 1) (omega (arith, l)) ∙ second_half f c j ∙ b)

    bit : (k : ℕ) → k < data_bits f → baud f c (suc k) ≡ bit_at c k
    bit k l = baud_data f c (suc k) (omega arith) (omega (arith, l)) ∙ ap (bit_at c) (omega arith)

module _ (f : Form) (c : ℕ) (d : List ℕ) (fits : frame_cells f ≤ length d) where
  -- the list after the frame was written
  abbrev pub written : List ℕ
  written = (write_frame f c d).cells

  pub written_fits : frame_cells f ≤ length written
  written_fits = subst⁻¹ (λ (n : ℕ). frame_cells f ≤ n) (cells_length f c d fits) fits

  pub written_sounds : Sounds f c (parity_bit f c) mark mark (level_at written)
  written_sounds = frame_sounds f c (level_at written) (λ i l. written_level f c d i fits (omega (arith, l, (frame_cells_lem f).0)))

  -- it reads back as the character, cut to its length, unmarked
  pub reads_back : read_frame f (write_frame f c d).cells ≡ heard f (limited f c) false false
  reads_back =
      sounds_read f c (parity_bit f c) mark mark written written_fits written_sounds
      ∙ ap (λ (p : Bool). heard f (limited f c) p false) (unmarked (has_parity f) (parity_bit f c))
