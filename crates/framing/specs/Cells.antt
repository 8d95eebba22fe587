-- What each cell of a frame is (document 02, K3; document 01, "a count of the ones").
--   bit_at       a data bit, the lowest being 0
--   parity_bit   the parity bit, by a count of the ones in the character cut to its length
--   baud        the level of each baud
--   frame_cell   the level of each cell
-- Not here: where the bauds lie, in Form; what follows, in laws/Cells.
-- Assumes nothing.
use Rattle.std.specs.Prelude.{ℕ, ◌+◌, ◌-◌, ◌/◌, ◌%◌, ◌^◌, eqb, ltb}
use Rattle.std.specs.Int.Count.{ones}
use Rattle.ground.specs.Choose.{pick}
use Rattle.framing.specs.declared.form.Parity.{Parity}
use Rattle.framing.specs.declared.form.Parity.TheVariants.{Inhibited, Odd, Even}
use Rattle.framing.specs.declared.form.Form.{Form}
use Rattle.framing.specs.Form.{data_bits, first_stop}

-- the two levels of the line
abbrev pub space : ℕ
space = 0

abbrev pub mark : ℕ
mark = 1

-- bit k of the character
unfoldable pub bit_at : ℕ → ℕ → ℕ
bit_at c k = c / 2 ^ k % 2

-- the character cut to the form's length
unfoldable pub limited : Form → ℕ → ℕ
limited f c = c % 2 ^ data_bits f

-- what the ones of data and parity bit together leave by 2: 1 for odd parity, 0 for even
abbrev pub sense_of : Parity → ℕ
sense_of Inhibited = 0
sense_of Odd = 1
sense_of Even = 0

unfoldable pub sense : Form → ℕ
sense f = sense_of f.parity

-- the parity bit
unfoldable pub parity_bit : Form → ℕ → ℕ
parity_bit f c = (ones (limited f c) + sense f) % 2

-- the level of baud j: the start, the data bits, the parity bit if there is one, the stop
unfoldable pub baud : Form → ℕ → ℕ → ℕ
baud f c j =
    pick (eqb j 0) space
    (pick (ltb j (data_bits f + 1)) (bit_at c (j - 1))
    (pick (ltb j (first_stop f)) (parity_bit f c) mark))

-- the level of cell i
unfoldable pub frame_cell : Form → ℕ → ℕ → ℕ
frame_cell f c i = baud f c (i / 2)
