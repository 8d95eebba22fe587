-- Choosing: between two values by a test; a value that may be absent; the first row of a table that applies; a number with its bound.
-- Not here: what follows, in laws/Rows.
-- Assumes nothing.
use Rattle.std.specs.Prelude.{◌≡◌, Bool, true, false, List, [], ◌∷◌, ℕ, ◌<◌}
use Rattle.std.proofs.Math.Option.{Option, some, none}

-- the first value where the test is true, and the second where it is false
unfoldable pub pick : {A : Type 0} → Bool → A → A → A
pick true a b = a
pick false a b = b

-- a bit of a word: 1 for true, 0 for false
unfoldable pub bit : Bool → ℕ
bit true = 1
bit false = 0

-- the test of a value that may be absent: false where there is none
unfoldable pub asked : {A : Type 0} → Option A → (A → Bool) → Bool
asked none test = false
asked (some a) test = test a

-- a row of a table of checks: its number, and whether it applies
pub record Row : Type 0 where
  pub number : ℕ
  pub applies : Bool

abbrev pub row : ℕ → Bool → Row
row k t = record { number = k; applies = t }

-- the number of the first row that applies, and 0 where none does
unfoldable pub first_of : List Row → ℕ
first_of [] = 0
first_of (r ∷ rs) = pick r.applies r.number (first_of rs)

-- r is the number x, and below n: what a contract says of a result that has a bound
pub record Below (n x r : ℕ) : Type 0 where
  pub is : r ≡ x
  pub below : r < n
