-- The levels of a list of cells: of one that was written, and of one in which a baud was changed.
--   level_itself      0 and 1 are their own levels
--   cell_in, cell_past, cells_length   every cell of the list after a frame was written
--   with_baud          a list with other cells in one baud; changed_first, changed_second, changed_else, changed_length
-- In proofs/laws/Levels, since they rest on these: written_level.
-- Not here: what is read of them, in Back and Frames.
-- Assumes nothing.
use Rattle.std.specs.Prelude.{◌≡◌, refl, List, ℕ, zero, suc, ◌+◌, ◌*◌, ◌<◌, ◌≤◌, length, get_or, set}
use Rattle.std.proofs.Common.{◌∙◌, arith, length-set}
use Rattle.std.proofs.Math.Path.{ap, subst⁻¹}
use Rattle.std.proofs.Math.Seq.{get_or-set_same, get_or-set_other}
use Rattle.ground.specs.Choose.{pick}
use Rattle.ground.specs.laws.Arrays.{tab_in, tab_past, tab_to_length}
use Rattle.framing.specs.declared.form.Form.{Form}
use Rattle.framing.specs.Form.{frame_cells}
use Rattle.framing.specs.Cells.{frame_cell}
use Rattle.framing.specs.Write.{write_frame}
use Rattle.framing.specs.Read.{level, level_at}
use Rattle.framing.specs.laws.Refusals.{write_fits}

pub level_itself : (x : ℕ) → x < 2 → level x ≡ x
unfolding level pick
level_itself zero h = refl
level_itself (suc zero) h = refl
level_itself (suc (suc x)) h = absurd (omega (arith, h))

-- ---- every cell of the list after a frame was written

-- each cell of the frame, by its definition
pub cell_in : (f : Form) (c : ℕ) (d : List ℕ) (i : ℕ) → frame_cells f ≤ length d → i < frame_cells f → get_or (write_frame f c d).cells i 0 ≡ frame_cell f c i
cell_in f c d i h l = rw (write_fits f c d h) (tab_in (frame_cells f) (frame_cell f c) d i 0 l)

-- each cell past it, as it was
pub cell_past : (f : Form) (c : ℕ) (d : List ℕ) (i : ℕ) → frame_cells f ≤ length d → frame_cells f ≤ i → get_or (write_frame f c d).cells i 0 ≡ get_or d i 0
cell_past f c d i h l = rw (write_fits f c d h) (tab_past (frame_cells f) (frame_cell f c) d i 0 h l)

-- no cell more and none less
pub cells_length : (f : Form) (c : ℕ) (d : List ℕ) → frame_cells f ≤ length d → length (write_frame f c d).cells ≡ length d
cells_length f c d h = rw (write_fits f c d h) (tab_to_length (frame_cells f) (frame_cell f c) d h)

-- ---- a list in which the two cells of one baud were changed

-- v and w in the two halves of baud j
abbrev pub with_baud : List ℕ → ℕ → ℕ → ℕ → List ℕ
with_baud cells j v w = set (set cells (2 * j) v) (2 * j + 1) w

module _ (cells : List ℕ) (j v w : ℕ) where
  pub changed_length : length (with_baud cells j v w) ≡ length cells
  changed_length = length-set (set cells (2 * j) v) (2 * j + 1) w ∙ length-set cells (2 * j) v

  pub changed_first : 2 * j < length cells → level_at (with_baud cells j v w) (2 * j) ≡ level v
  unfolding level_at
  changed_first h =
      ap level
      (get_or-set_other (set cells (2 * j) v) (2 * j + 1) (2 * j) w 0 (λ e. omega (arith, e)) ∙ get_or-set_same cells (2 * j) v 0 h)

  pub changed_second : 2 * j + 1 < length cells → level_at (with_baud cells j v w) (2 * j + 1) ≡ level w
  unfolding level_at
  changed_second h =
      ap level (get_or-set_same (set cells (2 * j) v) (2 * j + 1) w 0 (subst⁻¹ (λ (n : ℕ). 2 * j + 1 < n) (length-set cells (2 * j) v) h))

  pub changed_else : (i : ℕ) → (i ≡ 2 * j → ⊥) → (i ≡ 2 * j + 1 → ⊥) → level_at (with_baud cells j v w) i ≡ level_at cells i
  unfolding level_at
  changed_else i a b = ap level (get_or-set_other (set cells (2 * j) v) (2 * j + 1) i w 0 b ∙ get_or-set_other cells (2 * j) i v 0 a)
