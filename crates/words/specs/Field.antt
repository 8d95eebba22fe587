-- A bit field of a 16-bit word, bits numbered as in the manuals: bit 0 is the top bit, weight 32768, and bit 15 has weight 1.
--   bits      the field from one bit to another
--   get, put  its value in a word, and the word with another value in it
--   Whole     what makes a field one of a 16-bit word
-- Not here: what follows, in laws/Field.
-- Assumes nothing.
use Rattle.std.specs.Prelude.{◌≡◌, ℕ, ◌+◌, ◌-◌, ◌*◌, ◌/◌, ◌%◌, ◌^◌, ◌<◌}
use Rattle.words.specs.declared.field.Field.{Field}

-- the field of bits a to b (document 01, first paragraph)
abbrev pub bits : ℕ → ℕ → Field
bits a b = record { unit = 2 ^ (15 - b); span = 2 ^ (b + 1 - a) }

-- the field's value in the word w
unfoldable pub get : Field → ℕ → ℕ
get f w = w / f.unit % f.span

-- the word w with the value v in the field, every other bit kept
unfoldable pub put : Field → ℕ → ℕ → ℕ
put f v w = w - get f w * f.unit + v * f.unit

-- a field of a 16-bit word: it has values, and 65536 is a multiple of what it and the bits below it count
pub record Whole (f : Field) : Type 0 where
  pub unit_positive : 0 < f.unit
  pub span_positive : 0 < f.span
  pub ends : 65536 % (f.span * f.unit) ≡ 0
