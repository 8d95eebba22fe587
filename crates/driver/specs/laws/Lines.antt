-- The bytes of a line, put one number after the other.
--   sets_on, put_on_lem, put_last                bytes put in two parts; one more of them put, and one after them
--   after_is, line_on                        one more number of a line
--   Begun, begun_none, begun_on, begun_all   a line of which some numbers are put
--   line_length                              how many bytes a line has at most
-- In proofs/laws/Lines, since they rest on these: begun_none, begun_on, begun_all.
-- Not here: what a line is, in Printed; a number's digits, in Numerals.
-- Assumes nothing.
use Rattle.std.specs.Prelude.{◌≡◌, refl, ℕ, zero, suc, ◌+◌, ◌*◌, ◌<◌, ◌≤◌, ltb, get_or, take, set}
use Rattle.std.proofs.Common.{sym, ◌∙◌, add-one, arith, length-append, drop-cons, take-suc, length-take-le, lt-ltb, le-ltb}
use Rattle.std.proofs.Math.Path.{ap}
use mathlib.Core.List.{List, [], ◌∷◌, ◌++◌}
use Rattle.std.proofs.Math.Dec.{leb-suc-suc}
use Rattle.std.proofs.Math.ListN.{length, drop}
use Rattle.std.proofs.lemmas.List.Edits.{sets}
use Rattle.std.proofs.Math.Seq.{take-length, append_snoc}
use Rattle.ground.specs.Choose.{pick}
use Rattle.driver.specs.Printed.{decimal, after, line_of}
use Rattle.driver.specs.laws.Numerals.{numeral_length}

-- bytes put in two parts
pub sets_on : (l : List ℕ) (i : ℕ) (xs ys : List ℕ) → sets l i (xs ++ ys) ≡ sets (sets l i xs) (i + length xs) ys
sets_on l i [] ys = ap (λ (k : ℕ). sets l k ys) (omega arith)
sets_on l i (x ∷ xs) ys = sets_on (set l i x) (suc i) xs ys ∙ ap (λ (k : ℕ). sets (sets (set l i x) (suc i) xs) k ys) (omega arith)

-- one more byte put
pub put_on_lem : (text bytes : List ℕ) (at i : ℕ) (now : List ℕ) (d : ℕ) → i < length bytes → now ≡ sets text at (take i bytes) → set now (at + i) (get_or bytes i d) ≡ sets text at (take (i + 1) bytes)
put_on_lem text bytes at i now d h e =
    rw (e, add-one i, take-suc bytes i d h, sets_on text at (take i bytes) (get_or bytes i d ∷ []), length-take-le i bytes (omega arith))

-- the byte after them put
pub put_last : (text bytes : List ℕ) (at i : ℕ) (now : List ℕ) (last : ℕ) → i ≡ length bytes → now ≡ sets text at (take i bytes) → set now (at + i) last ≡ sets text at (bytes ++ (last ∷ []))
put_last text bytes at i now last h e =
    rw (e, h, take-length bytes, sets_on text at bytes (last ∷ []))

-- the byte after a number, by how many numbers are left
pub after_is : (xs : List ℕ) (i : ℕ) → after (drop i xs) ≡ pick (ltb i (length xs)) 32 10
unfolding after pick
after_is [] zero = refl
after_is [] (suc i) = rw (le-ltb (suc i) 0 (omega arith))
after_is (x ∷ xs) zero = rw (lt-ltb 0 (suc (length xs)) (omega arith))
after_is (x ∷ xs) (suc i) = rw (leb-suc-suc (suc i) (length xs)) (after_is xs i)

-- one more number of a line
pub line_on : (xs : List ℕ) (i : ℕ) → i < length xs → line_of (drop i xs) ≡ decimal (get_or xs i 0) ++ (after (drop (i + 1) xs) ∷ []) ++ line_of (drop (i + 1) xs)
unfolding line_of
line_on xs i h = rw (add-one, drop-cons xs i 0 h) (sym (append_snoc (decimal (get_or xs i 0)) (after (drop (suc i) xs)) (line_of (drop (suc i) xs))))

-- a line of which i numbers are put into the text: the rest put here on gives the whole, and each number took at most 21 bytes
pub record Begun (xs text : List ℕ) (i at : ℕ) (now : List ℕ) : Type 0 where
  pub rest : sets now at (line_of (drop i xs)) ≡ sets text 0 (line_of xs)
  pub size : at + length (line_of (drop i xs)) ≡ length (line_of xs)
  pub near : at ≤ 21 * i
  pub long : length now ≡ length text

-- a line has at most 21 bytes for each number
pub line_length : (xs : List ℕ) → length (line_of xs) ≤ 21 * length xs
unfolding line_of
line_length [] = omega arith
line_length (x ∷ xs) = simp length-append (omega (arith, numeral_length 20 x, line_length xs))
