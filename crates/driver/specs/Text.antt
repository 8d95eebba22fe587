-- The line of a session's text, read byte by byte (tests/second/FORMAT.md, Lines).
--   blank                       a line of which nothing is read yet
--   is_digit, appended           a digit, a number with one more
--   extended, ended             the line with one more digit, the line with its number ended
--   typed                       the line with one more byte
--   Turned                      what is known of a read where the text comes from outside
--   Heard                       what some text leaves, each of its bytes taken in turn
--   HeardFrom                   the same, of the text that a reader gave
-- Not here: which orders there are, in FORMAT.md; the line that is printed, in Printed.
-- Assumes nothing.
use Rattle.std.specs.Prelude.{◌≡◌, Bool, false, Option, ℕ, ◌+◌, ◌*◌, ◌%◌, ltb, set, replicate}
use Rattle.std.specs.Io.KnownBytes.{Consumes}
use mathlib.Core.List.{List, foldl}
use Rattle.ground.specs.Choose.{pick}
use Rattle.driver.specs.declared.read.Line.{Line}

-- a line of which nothing is read yet
abbrev pub blank : Line
blank = record { n = replicate 5 0; count = 0; number = 0 }

-- a digit: 48 to 57
unfoldable pub is_digit : ℕ → Bool
is_digit b = pick (ltb 57 b) false (ltb 47 b)

-- a number with one more digit
abbrev pub appended : ℕ → ℕ → ℕ
appended x b = x * 10 + b % 16

-- the line with one more digit of its number
abbrev pub extended : Line → ℕ → Line
extended l b = record { n = l.n; count = l.count; number = appended l.number b % 4294967296 }

-- the line with its number ended
unfoldable pub ended : Line → Line
ended l =
    pick (ltb l.count 5)
    (record { n = set l.n l.count l.number; count = l.count + 1; number = 0 })
    (record { n = l.n; count = l.count; number = 0 })

-- the line with one more byte: a digit extends the number, any other byte ends it
unfoldable pub typed : Line → ℕ → Line
typed l b = pick (is_digit b) (extended l b) (ended l)

-- one read from outside: some bytes were taken from k on, or the text has ended
pub data Turned {A : Type 0} (on : A → List ℕ → A) (shut : A → A) (k j : A) : Type 0 where
  came : (text : List ℕ) → j ≡ on k text → Turned on shut k j
  silent : j ≡ shut k → Turned on shut k j

-- some text was taken byte by byte from `first` on, and l is what it leaves
pub record Heard {A : Type 0} (taken : A → ℕ → A) (first l : A) : Type 0 where
  pub text : List ℕ
  pub line : l ≡ foldl taken first text

-- the same, where the text is what a reader gave: what it had before, less what it has left
pub record HeardFrom {A : Type 0} (had left : Option (List ℕ)) (taken : A → ℕ → A) (first l : A) : Type 0 where
  pub text : List ℕ
  pub bytes : Consumes had left text
  pub line : l ≡ foldl taken first text
