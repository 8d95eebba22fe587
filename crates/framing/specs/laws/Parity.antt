-- What the parity bit makes of the ones (document 02, K3; 001, 4.2 bits 8 and 12).
--   parity_sense             the ones of data and parity bit together leave the form's sense by 2
-- In proofs/laws/Parity, since they rest on these: odd_parity, even_parity.
-- Not here: the parity bit, in specs/Cells; the mark, in Changed.
-- Assumes nothing.
use Rattle.std.specs.Prelude.{◌≡◌, ℕ, ◌+◌, ◌%◌, ◌<◌}
use Rattle.std.proofs.Common.{arith, lit<}
use Rattle.std.specs.Int.Count.{ones}
use Rattle.framing.specs.declared.form.Parity.{Parity}
use Rattle.framing.specs.declared.form.Parity.TheVariants.{Inhibited, Odd, Even}
use Rattle.framing.specs.declared.form.Form.{Form}
use Rattle.framing.specs.Cells.{limited, sense_of, sense, parity_bit}

sense_below : (p : Parity) → sense_of p < 2
sense_below Inhibited = lit< tt
sense_below Odd = lit< tt
sense_below Even = lit< tt

-- a number and its remainder with s
together : (a s : ℕ) → s < 2 → (a + (a + s) % 2) % 2 ≡ s
together a s h = omega (arith, h)

pub parity_sense : (f : Form) (c : ℕ) → (ones (limited f c) + parity_bit f c) % 2 ≡ sense f
unfolding parity_bit sense
parity_sense f c = together (ones (limited f c)) (sense_of f.parity) (sense_below f.parity)
