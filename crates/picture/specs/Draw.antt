-- The rows of a picture, a character for each cell (D69).
--   stroke             where the line is at one level
--   letter_of, letter   which bit each cell is of
--   drawn_at, drawn     a row of either kind
-- Not here: what the cells are, in framing; the words above the rows, which the stored output holds.
-- Assumes nothing.
use Rattle.std.specs.Prelude.{List, ℕ, ◌+◌, ◌-◌, ◌/◌, ◌%◌, eqb, ltb}
use Rattle.ground.specs.Choose.{pick}
use Rattle.ground.specs.Tab.{tab}
use Rattle.framing.specs.declared.form.Form.{Form}
use Rattle.framing.specs.Form.{data_bits, first_stop}
use Rattle.framing.specs.Cells.{space, mark, frame_cell}
use Rattle.picture.specs.declared.draw.Row.{Row}
use Rattle.picture.specs.declared.draw.Row.TheVariants.{Marks, Spaces, Letters}

-- no frame has more cells
abbrev pub CELLS : ℕ
CELLS = 24

-- "-" where the cell is at the level, else a blank
unfoldable pub stroke : ℕ → ℕ → ℕ
stroke level cell = pick (eqb cell level) 45 32

-- the letter of a baud: S start, a data bit's number, P parity, T stop
unfoldable pub letter_of : Form → ℕ → ℕ
letter_of f j = pick (eqb j 0) 83 (pick (ltb j (data_bits f + 1)) (48 + (j - 1)) (pick (ltb j (first_stop f)) 80 84))

-- that of a cell: its baud's in the first half, a blank in the second
unfoldable pub letter : Form → ℕ → ℕ
letter f i = pick (eqb (i % 2) 0) (letter_of f (i / 2)) 32

-- what each row has for a cell
unfoldable pub drawn_at : Form → ℕ → Row → ℕ → ℕ
drawn_at f c Marks i = stroke mark (frame_cell f c i)
drawn_at f c Spaces i = stroke space (frame_cell f c i)
drawn_at f c Letters i = letter f i

-- a whole row; past the frame it goes on with the stop
unfoldable pub drawn : Form → ℕ → Row → List ℕ
drawn f c which = tab CELLS (drawn_at f c which)
