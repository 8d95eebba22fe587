-- The levels of a list of cells: of one that was written, and of one in which a baud was changed.
--   written_level     its levels are the frame's
-- Here, and not in specs/laws/Levels, is what rests on other laws of specs/: an edit of a definition counts as refused where nothing in specs/ rests on the
-- law that it breaks.
-- Assumes nothing.
use Rattle.std.specs.Prelude.{◌≡◌, List, ℕ, ◌<◌, ◌≤◌, length}
use Rattle.std.proofs.Common.{◌∙◌}
use Rattle.std.proofs.Math.Path.{ap}
use Rattle.framing.specs.declared.form.Form.{Form}
use Rattle.framing.specs.Form.{frame_cells}
use Rattle.framing.specs.Cells.{frame_cell}
use Rattle.framing.specs.Write.{write_frame}
use Rattle.framing.specs.Read.{level, level_at}
use Rattle.framing.proofs.laws.Cells.{cell_below}
use Rattle.framing.specs.laws.Levels.{level_itself, cell_in}

-- ---- every cell of the list after a frame was written

-- so its levels are the frame's
pub written_level : (f : Form) (c : ℕ) (d : List ℕ) (i : ℕ) → frame_cells f ≤ length d → i < frame_cells f → level_at (write_frame f c d).cells i ≡ frame_cell f c i
unfolding level_at
written_level f c d i h l = ap level (cell_in f c d i h l) ∙ level_itself (frame_cell f c i) (cell_below f c i)
