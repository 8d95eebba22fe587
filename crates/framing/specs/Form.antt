-- The form of a frame (document 02, K3): 5 to 8 data bits, parity or none, one, one and a half or two stops. A frame is drawn in bauds, as 001
-- calls the time of a bit, each of two cells:
--        0        1 . . . . . n        n + 1
--   +---------+------------------+--------------+------------+
--   |  start  |  data, n bits    |    parity    |   stop     |      the parity's baud only where there is parity;
--   |  space  |  lowest first    | if there is  |   marks    |      the stop has two, three or four cells
--   +---------+------------------+--------------+------------+
-- Not here: what each baud is, in Cells; which form a machine's control bits ask for, in Eds8.
-- Assumes nothing.
use Rattle.std.specs.Prelude.{Bool, true, false, ℕ, ◌+◌, ◌*◌}
use Rattle.ground.specs.Choose.{bit}
use Rattle.framing.specs.declared.form.DataBits.{DataBits}
use Rattle.framing.specs.declared.form.DataBits.TheVariants.{Five, Six, Seven, Eight}
use Rattle.framing.specs.declared.form.Parity.{Parity}
use Rattle.framing.specs.declared.form.Parity.TheVariants.{Inhibited, Odd, Even}
use Rattle.framing.specs.declared.form.Stops.{Stops}
use Rattle.framing.specs.declared.form.Stops.TheVariants.{One, OneAndHalf, Two}
use Rattle.framing.specs.declared.form.Form.{Form}

-- the number of data bits
abbrev pub bits_number : DataBits → ℕ
bits_number Five = 5
bits_number Six = 6
bits_number Seven = 7
bits_number Eight = 8

unfoldable pub data_bits : Form → ℕ
data_bits f = bits_number f.bits

-- whether there is a parity bit
abbrev pub checked : Parity → Bool
checked Inhibited = false
checked Odd = true
checked Even = true

unfoldable pub has_parity : Form → Bool
has_parity f = checked f.parity

-- the stop, in half bauds
abbrev pub halves_of : Stops → ℕ
halves_of One = 2
halves_of OneAndHalf = 3
halves_of Two = 4

unfoldable pub stop_cells : Form → ℕ
stop_cells f = halves_of f.stops

-- the number of the first stop's baud
unfoldable pub first_stop : Form → ℕ
first_stop f = data_bits f + bit (has_parity f) + 1

-- the cells of the whole frame
unfoldable pub frame_cells : Form → ℕ
frame_cells f = 2 * first_stop f + stop_cells f
