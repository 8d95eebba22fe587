-- A frame written into a lent list of cells (document 02, K3).
--   Written, written_of   what the call answers, and the answer that a result is
--   write_code    refusal 18, or 0
--   write_frame   the call: what it answers, and every cell of the list after it
-- Not here: what each cell of the frame is, in Cells; what follows, in laws/Write.
-- Assumes nothing.
use Rattle.std.specs.Prelude.{List, [], ℕ, eqb, ltb, length, drop, ◌∷◌, ◌++◌, Result, Ok, Err}
use Rattle.ground.specs.Choose.{pick, first_of, row}
use Rattle.ground.specs.Tab.{tab}
use Rattle.framing.specs.declared.form.Form.{Form}
use Rattle.framing.specs.declared.refusal.Refusal.{Refusal}
use Rattle.framing.specs.Form.{frame_cells}
use Rattle.framing.specs.Cells.{frame_cell}
use Rattle.framing.specs.Refusal.{number_of}

-- what the call answers: the refusal number or 0, and how many cells were written
pub record Written : Type 0 where
  pub code : ℕ
  pub used : ℕ

-- the answer that a result is
abbrev pub written_of : Result ℕ Refusal → Written
written_of (Err r) = record { code = number_of r; used = 0 }
written_of (Ok n) = record { code = 0; used = n }

-- what the call leaves: its answer and the list
pub record Wrote : Type 0 where
  pub answer : Written
  pub cells : List ℕ

abbrev pub wrote : Written → List ℕ → Wrote
wrote r xs = record { answer = r; cells = xs }

-- 18: the list is shorter than the whole frame
abbrev pub NO-ROOM : ℕ
NO-ROOM = 18

unfoldable pub write_code : Form → List ℕ → ℕ
write_code f cells = first_of (row NO-ROOM (ltb (length cells) (frame_cells f)) ∷ [])

-- refused, and the list as it was; or the frame's cells, and those past it as they were
unfoldable pub write_frame : Form → ℕ → List ℕ → Wrote
write_frame f c cells =
    pick (eqb (write_code f cells) 0)
    (wrote (record { code = 0; used = frame_cells f }) (tab (frame_cells f) (frame_cell f c) ++ drop (frame_cells f) cells))
    (wrote (record { code = write_code f cells; used = 0 }) cells)
