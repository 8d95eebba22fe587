-- What order 17 puts into the cells, and what orders 18 and 21 fill the cells and the memory with (tests/second/FORMAT.md).
--   bytes_of   the four bytes of a word
--   next      the next number of the series
--   series    so many numbers below m by it
--   span      order 18's m
-- Not here: orders 20 and 23, which the library's `set` and `map` say; how the code comes to it, in laws/Fill.
-- Assumes nothing.
use Rattle.std.specs.Prelude.{List, [], ◌∷◌, ℕ, zero, suc, ◌+◌, ◌*◌, ◌/◌, ◌%◌}

-- the four bytes of a word below 2^32, the highest first
abbrev pub bytes_of : ℕ → List ℕ
bytes_of w = w / 16777216 % 256 ∷ w / 65536 % 256 ∷ w / 256 % 256 ∷ w % 256 ∷ []

-- the number that follows x
unfoldable pub next : ℕ → ℕ
next x = x * 48271 % 2147483647

-- n numbers below m, each of the number that follows the last one's
unfoldable pub series : ℕ → ℕ → ℕ → List ℕ
series m zero x = []
series m (suc n) x = next x / 16 % m ∷ series m n (next x)

-- the m of order 18, from 1 to 256, so a number above them counts on from 1 again, and 0 is 256
unfoldable pub span : ℕ → ℕ
span m = (m + 255) % 256 + 1
