-- How far a frame's parts reach, as the check applies it: each begins with the size that it bounds.
-- Assumes nothing.
use Rattle.std.specs.Prelude.{◌≡◌, true, ◌+◌, ◌*◌, ◌<◌, ◌≤◌}
use Rattle.std.proofs.Common.{arith}
use Rattle.framing.specs.declared.form.Form.{Form}
use Rattle.framing.specs.Form.{data_bits, has_parity, first_stop, frame_cells}
use Rattle.framing.specs.laws.Form.{data_bits_lem, first_stop_lem, frame_cells_lem, stop_checked}

-- the first stop comes after the start and five data bits
pub first_stop_least : (f : Form) → 6 ≤ first_stop f
first_stop_least f = omega (arith, data_bits_lem f, first_stop_lem f)

-- so the frame has the start
pub frame_cells_least : (f : Form) → 14 ≤ frame_cells f
frame_cells_least f = omega (arith, first_stop_least f, frame_cells_lem f)

-- and the data bits
pub data_fit : (f : Form) → 2 * data_bits f + 1 < frame_cells f
data_fit f = omega (arith, first_stop_lem f, frame_cells_lem f)

-- and the parity bit, where there is one
pub parity_fits : (f : Form) → has_parity f ≡ true → 2 * (data_bits f + 1) < frame_cells f
parity_fits f h = omega (arith, stop_checked f h, frame_cells_lem f)
