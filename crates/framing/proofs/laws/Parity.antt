-- What the parity bit makes of the ones (document 02, K3; 001, 4.2 bits 8 and 12).
--   odd_parity, even_parity  so they are odd, or even
-- Here, and not in specs/laws/Parity, is what rests on other laws of specs/: an edit of a definition counts as refused where nothing in specs/ rests on the
-- law that it breaks.
-- Assumes nothing.
use Rattle.std.specs.Prelude.{◌≡◌, ℕ, ◌+◌, ◌%◌}
use Rattle.std.proofs.Common.{◌∙◌, ap}
use Rattle.std.specs.Int.Count.{ones}
use Rattle.framing.specs.declared.form.Parity.TheVariants.{Odd, Even}
use Rattle.framing.specs.declared.form.Form.{Form}
use Rattle.framing.specs.Cells.{limited, sense_of, sense, parity_bit}
use Rattle.framing.specs.laws.Parity.{parity_sense}

-- with odd parity the ones on the line are odd
pub odd_parity : (f : Form) (c : ℕ) → f.parity ≡ Odd → (ones (limited f c) + parity_bit f c) % 2 ≡ 1
unfolding sense
odd_parity f c e = parity_sense f c ∙ ap sense_of e

-- with even parity they are even
pub even_parity : (f : Form) (c : ℕ) → f.parity ≡ Even → (ones (limited f c) + parity_bit f c) % 2 ≡ 0
unfolding sense
even_parity f c e = parity_sense f c ∙ ap sense_of e
