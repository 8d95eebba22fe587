-- The line that a driver prints (tests/second/FORMAT.md, Lines): decimal numbers, one space between them, a newline at the end.
--   nothing, and           the numbers to print, gathered one after the other
--   decimal                a number's digits
--   after, line_of, line    the bytes of a line
--   Put                    bytes put into a text
-- Not here: which numbers an order prints, in Said of the crate compared.
-- Assumes nothing.
use Rattle.std.specs.Prelude.{◌≡◌, List, [], ◌∷◌, ◌++◌, ℕ, zero, suc, ◌+◌, ◌/◌, ◌%◌, ltb, length, set, take, replicate}
use Rattle.std.proofs.lemmas.List.Edits.{sets}
use Rattle.ground.specs.Choose.{pick}
use Rattle.driver.specs.declared.say.Said.{Said}

-- nothing to print yet
abbrev pub nothing : Said
nothing = record { n = replicate 10 0; count = 0 }

-- one more number to print; an eleventh is dropped
unfoldable pub and : Said → ℕ → Said
and s x = pick (ltb s.count 10) (record { n = set s.n s.count x; count = s.count + 1 }) s

-- the decimal digits of x, without leading zeros, where k of them are enough
unfoldable pub numeral : ℕ → ℕ → List ℕ
numeral zero x = []
numeral (suc k) x = pick (ltb x 10) ((48 + x) ∷ []) (numeral k (x / 10) ++ ((48 + x % 10) ∷ []))

-- the decimal digits of a number below 2^64
abbrev pub decimal : ℕ → List ℕ
decimal x = numeral 20 x

-- the byte after a number: a newline where no number follows, else a space
unfoldable pub after : List ℕ → ℕ
after [] = 10
after (x ∷ xs) = 32

-- the bytes of a line
unfoldable pub line_of : List ℕ → List ℕ
line_of [] = []
line_of (x ∷ xs) = decimal x ++ (after xs ∷ line_of xs)

-- the bytes of the line with the numbers gathered
abbrev pub line : Said → List ℕ
line s = line_of (take s.count s.n)

-- bytes put into a text from a place on: the place after them, and the text, whose other places are as they were
pub record Put (bytes before : List ℕ) (at place : ℕ) (left : List ℕ) : Type 0 where
  pub end : place ≡ at + length bytes
  pub text : left ≡ sets before at bytes
