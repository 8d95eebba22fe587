-- The byte at a byte pointer (document 01, Input 6): pointer div 2 is the word, even is the left half, odd the right.
--   byte_at, store_byte   fetched, and stored with the other half and every other word kept
--   word_if, byte_if      a word or a byte stored, or nothing
-- Not here: what follows, in laws/Byte.
-- Assumes nothing.
use Rattle.std.specs.Prelude.{ℕ, ◌/◌, ◌%◌, Bool, List, ◌==◌, slice_index, slice_set}
use Rattle.ground.specs.Choose.{pick}
use Rattle.words.specs.declared.field.Field.{Field}
use Rattle.words.specs.Field.{get, put}
use Rattle.words.specs.Codes.{LEFT, RIGHT}

-- the half of its word that a byte pointer names
unfoldable pub half_at : ℕ → Field
half_at p = pick (p % 2 == 0) LEFT RIGHT

-- the byte at the pointer
unfoldable pub byte_at : List ℕ → ℕ → ℕ
byte_at m p = get (half_at p) (slice_index m (p / 2))

-- the memory with a byte at the pointer
unfoldable pub store_byte : List ℕ → ℕ → ℕ → List ℕ
store_byte m p b = slice_set m (p / 2) (put (half_at p) b (slice_index m (p / 2)))

-- the memory with a word in its place, or as it was
unfoldable pub word_if : Bool → List ℕ → ℕ → ℕ → List ℕ
word_if on m at w = pick on (slice_set m at w) m

-- the memory with a byte at the pointer, or as it was
unfoldable pub byte_if : Bool → List ℕ → ℕ → ℕ → List ℕ
byte_if on m p b = pick on (store_byte m p b) m
