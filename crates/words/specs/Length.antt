-- A port's length and the cut of a character to it (document 01, what the lines do; 001, 4.2 bits 10 and 11).
-- Not here: when a character is cut, in lines; that there is at least one code of any length, in laws/Length.
-- Assumes nothing.
use Rattle.std.specs.Prelude.{ℕ, ◌+◌, ◌%◌, ◌^◌}
use Rattle.words.specs.Field.{get}
use Rattle.words.specs.Codes.{LENGTH}

-- the data bits of a character: 5, 6, 7 or 8
unfoldable pub length_of : ℕ → ℕ
length_of control = 5 + get LENGTH control

-- how many codes a character of that length can have
unfoldable pub span_of : ℕ → ℕ
span_of control = 2 ^ length_of control

-- the character with the bits above the port's length made 0
unfoldable pub cut : ℕ → ℕ → ℕ
cut control c = c % span_of control
