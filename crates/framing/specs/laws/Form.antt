-- Where the parts of a frame lie.
-- Not here: the form itself, in specs/Form.
-- Assumes nothing.
use Rattle.std.specs.Prelude.{◌≡◌, true, false, ℕ, ◌+◌, ◌*◌, ◌<◌, ◌≤◌}
use Rattle.std.proofs.Common.{ap, add_assoc, add-zero, arith, lit<}
use Rattle.ground.specs.Choose.{bit}
use Rattle.ground.specs.laws.Rows.{bit_below}
use Rattle.framing.specs.declared.form.DataBits.{DataBits}
use Rattle.framing.specs.declared.form.DataBits.TheVariants.{Five, Six, Seven, Eight}
use Rattle.framing.specs.declared.form.Stops.{Stops}
use Rattle.framing.specs.declared.form.Stops.TheVariants.{One, OneAndHalf, Two}
use Rattle.framing.specs.declared.form.Form.{Form}
use Rattle.framing.specs.Form.{bits_number, data_bits, has_parity, halves_of, stop_cells, first_stop, frame_cells}

some_bits : (b : DataBits) → (5 ≤ bits_number b) × (bits_number b < 9)
some_bits Five = (lit< tt, lit< tt)
some_bits Six = (lit< tt, lit< tt)
some_bits Seven = (lit< tt, lit< tt)
some_bits Eight = (lit< tt, lit< tt)

-- 5 to 8 data bits
pub data_bits_lem : (f : Form) → (5 ≤ data_bits f) × (data_bits f < 9)
unfolding data_bits
data_bits_lem f = some_bits f.bits

some_halves : (s : Stops) → (2 ≤ halves_of s) × (halves_of s < 5)
some_halves One = (lit< tt, lit< tt)
some_halves OneAndHalf = (lit< tt, lit< tt)
some_halves Two = (lit< tt, lit< tt)

-- two to four stop cells
pub stop_cells_lem : (f : Form) → (2 ≤ stop_cells f) × (stop_cells f < 5)
unfolding stop_cells
stop_cells_lem f = some_halves f.stops

-- the first stop comes after the data bits, and after the parity bit where there is one
pub stop_checked : (f : Form) → has_parity f ≡ true → first_stop f ≡ data_bits f + 2
unfolding first_stop bit
stop_checked f h = rw h (add_assoc (data_bits f) 1 1)

pub stop_unchecked : (f : Form) → has_parity f ≡ false → first_stop f ≡ data_bits f + 1
unfolding first_stop bit
stop_unchecked f h = rw h (ap (λ (n : ℕ). n + 1) (add-zero (data_bits f)))

-- so it is one of the bauds 6 to 10
pub first_stop_lem : (f : Form) → (data_bits f < first_stop f) × (first_stop f < 11)
unfolding first_stop
first_stop_lem f = (omega (arith, (data_bits_lem f).1), omega (arith, (data_bits_lem f).1, bit_below (has_parity f)))

-- the whole frame has the first stop, and at most 24 cells
pub frame_cells_lem : (f : Form) → (2 * first_stop f + 2 ≤ frame_cells f) × (frame_cells f < 25)
unfolding frame_cells
frame_cells_lem f = (omega (arith, (stop_cells_lem f).0), omega (arith, (first_stop_lem f).1, (stop_cells_lem f).1))
