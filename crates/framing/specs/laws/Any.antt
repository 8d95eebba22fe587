-- What any list of cells gives (document 02, K3).
-- In proofs/laws/Any, since they rest on these: later_unread, later_cells, read_below, unmarked_iff.
-- Not here: when reading is refused, in Refusals.
-- Assumes nothing.
use Rattle.std.specs.Prelude.{◌≡◌, List, ℕ, ◌+◌, ◌*◌, ◌^◌, ◌<◌, ◌≤◌, length}
use Rattle.framing.specs.declared.form.Form.{Form}
use Rattle.framing.specs.Form.{data_bits, first_stop, frame_cells}
use Rattle.framing.specs.Cells.{frame_cell}
use Rattle.framing.specs.Read.{level_at}

-- ---- cells after the first stop

-- the levels agree up to the end of the first stop
abbrev pub Agree : Form → (ℕ → ℕ) → (ℕ → ℕ) → Type 0
Agree f g h = (i : ℕ) → i < 2 * first_stop f + 2 → g i ≡ h i

-- ---- what is read

-- the character's frame stands in the list, up to the end of the first stop
pub record Stands (f : Form) (c : ℕ) (cells : List ℕ) : Type 0 where
  pub long : frame_cells f ≤ length cells
  pub short : c < 2 ^ data_bits f
  pub levels : Agree f (level_at cells) (frame_cell f c)
