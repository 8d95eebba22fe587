-- The bytes of a line, put one number after the other.
--   Begun, begun_none, begun_on, begun_all   a line of which some numbers are put
-- Here, and not in specs/laws/Lines, is what rests on other laws of specs/: an edit of a definition counts as refused where nothing in specs/ rests on the
-- law that it breaks.
-- Assumes nothing.
use Rattle.std.specs.Prelude.{◌≡◌, refl, ℕ, ◌+◌, ◌<◌, ltb, get_or}
use Rattle.std.proofs.Common.{sym, ◌∙◌, arith, length-append}
use Rattle.std.proofs.Math.Path.{ap}
use mathlib.Core.List.{List, [], ◌∷◌, ◌++◌}
use Rattle.std.proofs.Math.ListN.{length, drop}
use Rattle.std.proofs.lemmas.List.Edits.{sets}
use Rattle.std.proofs.Math.Seq.{drop-length, length-sets}
use Rattle.ground.specs.Choose.{pick}
use Rattle.driver.specs.Printed.{decimal, after, line_of, Put}
use Rattle.driver.specs.laws.Numerals.{numeral_length}
use Rattle.driver.specs.laws.Lines.{sets_on, after_is, line_on, Begun}

module _ (xs text : List ℕ) where
  pub begun_none : Begun xs text 0 0 text
  begun_none = record { rest = refl; size = omega arith; near = omega arith; long = refl }

  -- one more number
  pub begun_on : (i at place : ℕ) (now left : List ℕ) (x b n : ℕ) → n ≡ length xs → i < n → x ≡ get_or xs i 0 → b ≡ pick (ltb (i + 1) n) 32 10 → Put (decimal x ++ (b ∷ [])) now at place left → Begun xs text i at now → Begun xs text (i + 1) place left
  begun_on i at place now left x b n len h ex eb p g =
      let part : List ℕ = decimal (get_or xs i 0) ++ (after (drop (i + 1) xs) ∷ []) in
      let q : Put part now at place left = rw (after_is xs (i + 1), ← len, ← eb, ← ex) p in
      let whole : line_of (drop i xs) ≡ part ++ line_of (drop (i + 1) xs) = line_on xs i (omega arith) in
      record {
        rest = rw (q.text, q.end) (sym (sets_on now at part (line_of (drop (i + 1) xs)))) ∙ sym (ap (λ (ys : List ℕ). sets now at ys) whole) ∙ g.rest;
        size = omega (arith, q.end, g.size, ap length whole ∙ length-append part (line_of (drop (i + 1) xs)));
        near = omega (arith, q.end, g.near, length-append (decimal (get_or xs i 0)) (after (drop (i + 1) xs) ∷ []), numeral_length 20 (get_or xs i 0));
        long = ap length q.text ∙ length-sets now at part ∙ g.long;
      }

  -- all of them
  pub begun_all : (i at : ℕ) (now : List ℕ) → i ≡ length xs → Begun xs text i at now → Put (line_of xs) text 0 at now
  unfolding line_of
  begun_all i at now e b =
      let none : drop i xs ≡ [] = rw e (drop-length xs) in
      record { end = omega (arith, b.size, ap (λ (ys : List ℕ). length (line_of ys)) none); text = rw none at b.rest }
