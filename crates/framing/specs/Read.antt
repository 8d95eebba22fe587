-- A frame read from a lent list of cells (document 02, K3).
--   level, level_at         what a cell reads as
--   starts_well, whole_to    the start is two spaces; the bauds up to one have one level in both halves
--   data_of                 the data bits put together
--   parity_mark, break_mark  the marks
--   read_code               refusals 19 and 20, or 0
--   Frame, frame_of         what the call answers, and the answer that a result is
--   read_frame, Looked      the call, and what it leaves
-- Not here: what the parity bit should be, in Cells; what follows, in laws/Read.
-- Assumes nothing.
use Rattle.std.specs.Prelude.{Bool, true, false, not, ◌&&◌, ◌||◌, List, [], ◌∷◌, ℕ, zero, suc, ◌+◌, ◌-◌, ◌*◌, ◌^◌, eqb, ltb, length, get_or, Result, Ok, Err}
use Rattle.ground.specs.Choose.{pick, first_of, row}
use Rattle.framing.specs.declared.form.Form.{Form}
use Rattle.framing.specs.declared.refusal.Refusal.{Refusal}
use Rattle.framing.specs.declared.read.Frame.{Frame as Taken}
use Rattle.framing.specs.Form.{data_bits, has_parity, first_stop, frame_cells}
use Rattle.framing.specs.Cells.{space, mark, parity_bit}
use Rattle.framing.specs.Refusal.{number_of}

-- what the call answers: the refusal number or 0, then the character and its two marks, and how many cells the frame has. Beside a refusal they are 0
pub record Frame : Type 0 where
  pub code : ℕ
  pub c : ℕ
  pub parity : Bool
  pub brk : Bool
  pub used : ℕ

-- 0 is space; 1 and any other is mark
unfoldable pub level : ℕ → ℕ
level x = pick (eqb x 0) space mark

-- the level of cell i of the list
unfoldable pub level_at : List ℕ → ℕ → ℕ
level_at cells i = level (get_or cells i 0)

-- both cells of the start, baud 0, are space. The levels of the cells are given here and below, and not the cells
unfoldable pub starts_well : (ℕ → ℕ) → Bool
starts_well g = eqb (g 0) space && eqb (g 1) space

-- both halves of baud j have one level
unfoldable pub alike : (ℕ → ℕ) → ℕ → Bool
alike g j = eqb (g (2 * j)) (g (2 * j + 1))

-- so have those of bauds 1 to m
unfoldable pub whole_to : (ℕ → ℕ) → ℕ → Bool
whole_to g zero = true
whole_to g (suc m) = alike g (suc m) && whole_to g m

-- the lowest n data bits put together: bit k is baud k + 1
unfoldable pub data_of : (ℕ → ℕ) → ℕ → ℕ
data_of g zero = 0
data_of g (suc k) = g (2 * suc k) * 2 ^ k + data_of g k

-- there is a parity bit, and it is not the one that the character c asks for
unfoldable pub parity_mark : Form → (ℕ → ℕ) → ℕ → Bool
parity_mark f g c = has_parity f && not (eqb (g (2 * (data_bits f + 1))) (parity_bit f c))

-- a space in either half of the first stop
unfoldable pub break_mark : Form → (ℕ → ℕ) → Bool
break_mark f g = eqb (g (2 * first_stop f)) space || eqb (g (2 * first_stop f + 1)) space

-- 19: the list is shorter than the whole frame. 20: the start is not two space cells, or the halves of a data or parity bit differ
abbrev pub TOO-SHORT : ℕ
TOO-SHORT = 19

abbrev pub NO-FRAME : ℕ
NO-FRAME = 20

unfoldable pub read_code : Form → List ℕ → ℕ
read_code f cells =
    first_of
    (row TOO-SHORT (ltb (length cells) (frame_cells f))
    ∷ row NO-FRAME (not (starts_well (level_at cells) && whole_to (level_at cells) (first_stop f - 1)))
    ∷ [])

-- what the levels of a frame give
unfoldable pub frame_read : Form → (ℕ → ℕ) → Frame
frame_read f g =
    let c = data_of g (data_bits f) in
    record { code = 0; c = c; parity = parity_mark f g c; brk = break_mark f g; used = frame_cells f }

-- a refusal: its number, and zeros beside it
abbrev pub unread : ℕ → Frame
unread k = record { code = k; c = 0; parity = false; brk = false; used = 0 }

-- the answer that a result is
abbrev pub frame_of : Result Taken Refusal → Frame
frame_of (Err r) = unread (number_of r)
frame_of (Ok x) = record { code = 0; c = x.c; parity = x.parity; brk = x.brk; used = x.used }

-- what the call leaves: its answer and the list
pub record Looked : Type 0 where
  pub answer : Frame
  pub cells : List ℕ

abbrev pub looked : Frame → List ℕ → Looked
looked r xs = record { answer = r; cells = xs }

-- the call: refused by its number, or what was read
unfoldable pub read_frame : Form → List ℕ → Frame
read_frame f cells = pick (eqb (read_code f cells) 0) (frame_read f (level_at cells)) (unread (read_code f cells))
