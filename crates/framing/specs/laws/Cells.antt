-- The cells of a frame, part by part.
--   baud_start, baud_data, baud_parity, baud_stop   the level of each baud
--   baud_below, cell_below                          a level is 0 or 1
--   first_half_lem, second_half                         both cells of a baud have its level
-- In proofs/laws/Cells, since they rest on these: baud_data, baud_parity, baud_stop, cell_below.
-- Not here: the definitions, in specs/Cells; what the parity bit makes of the ones, in Parity.
-- Assumes nothing.
use Rattle.std.specs.Prelude.{◌≡◌, refl, Bool, true, false, ℕ, ◌+◌, ◌-◌, ◌*◌, ◌/◌, ◌^◌, ◌<◌}
use Rattle.std.proofs.Common.{ap, mod-lt, arith, lit<}
use Rattle.ground.specs.Choose.{pick}
use Rattle.framing.specs.declared.form.Form.{Form}
use Rattle.framing.specs.Cells.{space, bit_at, parity_bit, baud, frame_cell}

pub baud_start : (f : Form) (c : ℕ) → baud f c 0 ≡ space
unfolding baud pick
baud_start f c = refl

pub bit_at_below : (c k : ℕ) → bit_at c k < 2
unfolding bit_at
bit_at_below c k = mod-lt (c / 2 ^ k) (lit< tt)

-- two levels, chosen or given, are below 2
pub chosen_below : (t : Bool) (a b : ℕ) → a < 2 → b < 2 → pick t a b < 2
unfolding pick
chosen_below true a b h k = h
chosen_below false a b h k = k

pub parity_below : (f : Form) (c : ℕ) → parity_bit f c < 2
unfolding parity_bit
parity_below f c = mod-lt _ (lit< tt)

pub baud_below : (f : Form) (c j : ℕ) → baud f c j < 2
unfolding baud
baud_below f c j = chosen_below _ _ _ (lit< tt) (chosen_below _ _ _ (bit_at_below c (j - 1)) (chosen_below _ _ _ (parity_below f c) (lit< tt)))

half : (j : ℕ) → (2 * j / 2 ≡ j) × ((2 * j + 1) / 2 ≡ j)
half j = (omega arith, omega arith)

-- both cells of a baud have its level
pub first_half_lem : (f : Form) (c j : ℕ) → frame_cell f c (2 * j) ≡ baud f c j
unfolding frame_cell
first_half_lem f c j = ap (baud f c) (half j).0

pub second_half : (f : Form) (c j : ℕ) → frame_cell f c (2 * j + 1) ≡ baud f c j
unfolding frame_cell
second_half f c j = ap (baud f c) (half j).1
