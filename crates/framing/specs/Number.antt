-- Forms by number: bits + 4 * parity + 12 * stops, 0 to 35 (tests/second/FORMAT.md).
-- Not here: what a form is, in Form; that every form has its number and no two the same, in laws/Number.
-- Assumes nothing.
use Rattle.std.specs.Prelude.{ℕ, ◌+◌, ◌-◌, ◌*◌, ◌/◌, ◌%◌, eqb}
use Rattle.ground.specs.Choose.{pick}
use Rattle.framing.specs.declared.form.DataBits.{DataBits}
use Rattle.framing.specs.declared.form.DataBits.TheVariants.{Five, Six, Seven, Eight}
use Rattle.framing.specs.declared.form.Parity.{Parity}
use Rattle.framing.specs.declared.form.Parity.TheVariants.{Inhibited, Odd, Even}
use Rattle.framing.specs.declared.form.Stops.{Stops}
use Rattle.framing.specs.declared.form.Stops.TheVariants.{One, OneAndHalf, Two}
use Rattle.framing.specs.declared.form.Form.{Form}
use Rattle.framing.specs.Form.{data_bits, stop_cells}

-- 0 to 3 are 5 to 8 data bits (001, 4.2 bits 10 and 11)
unfoldable pub bits_numbered : ℕ → DataBits
bits_numbered x = pick (eqb x 0) Five (pick (eqb x 1) Six (pick (eqb x 2) Seven Eight))

-- one of three, by a number: 0, 1, or any other
unfoldable pub of_three : {A : Type 0} → A → A → A → ℕ → A
of_three a b c x = pick (eqb x 0) a (pick (eqb x 1) b c)

-- 0 none, 1 odd, 2 even
abbrev pub parity_numbered : ℕ → Parity
parity_numbered x = of_three Inhibited Odd Even x

-- 0 one, 1 one and a half, 2 two
abbrev pub stops_numbered : ℕ → Stops
stops_numbered x = of_three One OneAndHalf Two x

-- from 36 on they are the same forms again
unfoldable pub form_numbered : ℕ → Form
form_numbered x = record { bits = bits_numbered (x % 4); parity = parity_numbered (x / 4 % 3); stops = stops_numbered (x / 12 % 3) }

abbrev pub number_of : Parity → ℕ
number_of Inhibited = 0
number_of Odd = 1
number_of Even = 2

unfoldable pub parity_number : Form → ℕ
parity_number f = number_of f.parity

-- the number of a form
unfoldable pub form_number : Form → ℕ
form_number f = data_bits f - 5 + 4 * parity_number f + 12 * (stop_cells f - 2)
