-- What a line asks for: data bits, parity, stop cells and a character, its first four numbers (D69).
-- Not here: how a line is read, in Text of the crate driver; forms by number, in framing.
-- Assumes nothing.
use Rattle.std.specs.Prelude.{Bool, true, false, Option, None, Some, ◌&&◌, List, ℕ, ◌+◌, ◌-◌, ◌*◌, ◌<◌, ltb, get_or}
use Rattle.ground.specs.Choose.{pick}
use Rattle.framing.specs.declared.form.Form.{Form}
use Rattle.framing.specs.Number.{form_numbered}
use Rattle.driver.specs.declared.read.Line.{Line}
use Rattle.picture.specs.declared.asked.Asked.{Asked as AskedMade}

-- number i of the line
abbrev pub nth : List ℕ → ℕ → ℕ
nth n i = get_or n i 0

-- the first four numbers are there, and are a form's and a character's: 5 to 8 bits, parity 0 to 2, 2 to 4 stop cells, a byte
unfoldable pub drawable : List ℕ → ℕ → Bool
drawable n count =
    pick (ltb count 4) false
    ((((ltb 4 (nth n 0) && ltb (nth n 0) 9) && ltb (nth n 1) 3) && (ltb 1 (nth n 2) && ltb (nth n 2) 5)) && ltb (nth n 3) 256)

-- the same of a form, in numbers
pub record Drawable (bits parity stops : ℕ) : Type 0 where
  pub some_bits : 4 < bits
  pub few_bits : bits < 9
  pub known : parity < 3
  pub some_stops : 1 < stops
  pub few_stops : stops < 5

-- the form by its parts' own numbers
abbrev pub form_of : ℕ → ℕ → ℕ → Form
form_of bits parity stops = form_numbered (bits - 5 + 4 * parity + 12 * (stops - 2))

-- whether there is a frame to draw, its form and its character
pub record Asked : Type 0 where
  pub good : Bool
  pub form : Form
  pub c : ℕ

-- what a line asks for
unfoldable pub asked_for : Line → Asked
asked_for l =
    pick (drawable l.n l.count)
    (record { good = true; form = form_of (nth l.n 0) (nth l.n 1) (nth l.n 2); c = nth l.n 3 })
    (record { good = false; form = form_numbered 0; c = 0 })

-- what the code says of it: there is no form and no character where there is no frame
abbrev pub asked_of : Option AskedMade → Asked
asked_of None = record { good = false; form = form_numbered 0; c = 0 }
asked_of (Some a) = record { good = true; form = a.form; c = a.c }
