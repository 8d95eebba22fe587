-- The cells of a frame, part by part.
--   baud_start, baud_data, baud_parity, baud_stop   the level of each baud
--   baud_below, cell_below                          a level is 0 or 1
-- Here, and not in specs/laws/Cells, is what rests on other laws of specs/: an edit of a definition counts as refused where nothing in specs/ rests on the
-- law that it breaks.
-- Assumes nothing.
use Rattle.std.specs.Prelude.{◌≡◌, ℕ, ◌+◌, ◌-◌, ◌/◌, ◌<◌, ◌≤◌, ltb}
use Rattle.std.proofs.Common.{◌∙◌, arith, ne_eqb, lt-ltb, le-ltb}
use Rattle.ground.specs.Choose.{pick}
use Rattle.ground.specs.laws.Rows.{pick_true, pick-false}
use Rattle.framing.specs.declared.form.Form.{Form}
use Rattle.framing.specs.Form.{data_bits, first_stop}
use Rattle.framing.specs.Cells.{mark, bit_at, parity_bit, baud, frame_cell}
use Rattle.framing.specs.laws.Form.{first_stop_lem}
use Rattle.framing.specs.laws.Cells.{baud_below}

-- past the start: by the two tests that are left
past : (f : Form) (c j : ℕ) → 0 < j → baud f c j ≡ pick (ltb j (data_bits f + 1)) (bit_at c (j - 1)) (pick (ltb j (first_stop f)) (parity_bit f c) mark)
unfolding baud
past f c j h = pick-false _ _ _ (ne_eqb j 0 (λ e. omega (arith, e, h)))

-- the data bits, lowest first
pub baud_data : (f : Form) (c j : ℕ) → 0 < j → j ≤ data_bits f → baud f c j ≡ bit_at c (j - 1)
baud_data f c j h k =
    let l : j < data_bits f + 1 = omega (arith, k) in
    past f c j h ∙ pick_true _ _ _ (lt-ltb j (data_bits f + 1) l)

-- past the data
after : (f : Form) (c j : ℕ) → data_bits f < j → baud f c j ≡ pick (ltb j (first_stop f)) (parity_bit f c) mark
after f c j h =
    let l : data_bits f + 1 ≤ j = omega (arith, h) in
    let m : 0 < j = omega (arith, h) in
    past f c j m ∙ pick-false _ _ _ (le-ltb j (data_bits f + 1) l)

-- what lies between data and stop is the parity bit
pub baud_parity : (f : Form) (c j : ℕ) → data_bits f < j → j < first_stop f → baud f c j ≡ parity_bit f c
baud_parity f c j h k = after f c j h ∙ pick_true _ _ _ (lt-ltb j (first_stop f) k)

-- marks from the first stop on
pub baud_stop : (f : Form) (c j : ℕ) → first_stop f ≤ j → baud f c j ≡ mark
baud_stop f c j h =
    let l : data_bits f < j = omega (arith, (first_stop_lem f).0, h) in
    after f c j l ∙ pick-false _ _ _ (le-ltb j (first_stop f) h)

pub cell_below : (f : Form) (c i : ℕ) → frame_cell f c i < 2
unfolding frame_cell
cell_below f c i = baud_below f c (i / 2)
