-- The eight speeds (document 01, last line of the sweep; 001, 4.2 bits 13 to 15). No call reads the speed yet.
-- Not here: what a speed is for.
-- Assumes nothing.
use Rattle.std.specs.Prelude.{ℕ, List, [], ◌∷◌, slice_index}
use Rattle.words.specs.Field.{get}
use Rattle.words.specs.Codes.{SPEED}

-- in baud, 000 first
abbrev pub speeds : List ℕ
speeds = 110 ∷ 150 ∷ 300 ∷ 600 ∷ 1200 ∷ 2400 ∷ 4800 ∷ 9600 ∷ []

-- the speed that a port's control bits ask for
unfoldable pub speed_of : ℕ → ℕ
speed_of control = slice_index speeds (get SPEED control)
