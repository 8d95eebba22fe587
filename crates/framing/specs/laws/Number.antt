-- Every form has its number, below 36, and no two forms the same; so there are 36 forms.
--   three_first, three_second, three_third   one of three, by a number
--   number_below, number_back                a form's number, and the form of its number
-- Not here: the numbers, in specs/Number.
-- Assumes nothing.
use Rattle.std.specs.Prelude.{◌≡◌, ℕ, ◌+◌, ◌-◌, ◌*◌, ◌/◌, ◌%◌, ◌<◌}
use Rattle.std.proofs.Math.Path.{refl}
use Rattle.std.proofs.Common.{arith, lit<}
use borrow.Author.Tests.{ne_eqb}
use Rattle.ground.specs.Choose.{pick}
use Rattle.framing.specs.declared.form.DataBits.{DataBits}
use Rattle.framing.specs.declared.form.DataBits.TheVariants.{Five, Six, Seven, Eight}
use Rattle.framing.specs.declared.form.Parity.{Parity}
use Rattle.framing.specs.declared.form.Parity.TheVariants.{Inhibited, Odd, Even}
use Rattle.framing.specs.declared.form.Stops.{Stops}
use Rattle.framing.specs.declared.form.Stops.TheVariants.{One, OneAndHalf, Two}
use Rattle.framing.specs.declared.form.Form.{Form}
use Rattle.framing.specs.Form.{bits_number, data_bits, halves_of, stop_cells}
use Rattle.framing.specs.Number.{bits_numbered, of_three, parity_numbered, stops_numbered, form_numbered, number_of, parity_number, form_number}
use Rattle.framing.specs.laws.Form.{data_bits_lem, stop_cells_lem}

bits_back : (b : DataBits) → bits_numbered (bits_number b - 5) ≡ b
unfolding bits_numbered pick
bits_back Five = refl
bits_back Six = refl
bits_back Seven = refl
bits_back Eight = refl

-- one of three
module _ {A : Type 0} (a b c : A) (x : ℕ) where
  pub three_first : x ≡ 0 → a ≡ of_three a b c x
  unfolding of_three pick
  three_first e = rw e refl

  pub three_second : x ≡ 1 → b ≡ of_three a b c x
  unfolding of_three pick
  three_second e = rw e refl

  pub three_third : (x ≡ 0 → ⊥) → (x ≡ 1 → ⊥) → c ≡ of_three a b c x
  unfolding of_three pick
  three_third m n = rw (ne_eqb x 0 m, ne_eqb x 1 n) refl

parity_back : (p : Parity) → parity_numbered (number_of p) ≡ p
unfolding of_three pick
parity_back Inhibited = refl
parity_back Odd = refl
parity_back Even = refl

stops_back : (s : Stops) → stops_numbered (halves_of s - 2) ≡ s
unfolding of_three pick
stops_back One = refl
stops_back OneAndHalf = refl
stops_back Two = refl

some_parity : (p : Parity) → number_of p < 3
some_parity Inhibited = lit< tt
some_parity Odd = lit< tt
some_parity Even = lit< tt

pub parity_number_lem : (f : Form) → parity_number f < 3
unfolding parity_number
parity_number_lem f = some_parity f.parity

-- a number below 36
pub number_below : (f : Form) → form_number f < 36
unfolding form_number
number_below f = omega (arith, (data_bits_lem f).1, parity_number_lem f, (stop_cells_lem f).1)

-- the three parts of a number
parts : (a b c : ℕ) → a < 4 → b < 3 → c < 3 → ((a + 4 * b + 12 * c) % 4 ≡ a) × ((a + 4 * b + 12 * c) / 4 % 3 ≡ b) × ((a + 4 * b + 12 * c) / 12 % 3 ≡ c)
parts a b c h k l = (omega (arith, h, k, l), omega (arith, h, k, l), omega (arith, h, k, l))

-- the form of its number is the form, so no two have one number, and no form is left out
pub number_back : (f : Form) → form_numbered (form_number f) ≡ f
unfolding form_numbered form_number data_bits parity_number stop_cells
number_back f =
    let p = parts (bits_number f.bits - 5) (number_of f.parity) (halves_of f.stops - 2) (omega (arith, (data_bits_lem f).1)) (some_parity f.parity) (omega (arith, (stop_cells_lem f).1)) in
    rw (p.0, p.1, p.2, bits_back f.bits, parity_back f.parity, stops_back f.stops) refl
