-- A fold over a list, from a place in it on.
--   fold_on    one more element
--   fold_end   past the last one
--   Folding, folding_none, folding_on, folding_all   a fold of which some elements are passed: the invariant of a loop
--   Taking, taking_none, taking_on, taking_all   a digest of numbers of which some are taken
-- Not here: what is folded, in Digest.
-- Assumes nothing.
use Rattle.std.specs.Prelude.{◌≡◌, refl, ℕ, ◌+◌, ◌<◌, ◌≤◌, get_or, length, drop}
use Rattle.std.proofs.Common.{sym, ◌∙◌, ap, add-one, arith, drop-cons}
use mathlib.Core.List.{List, foldl}
use Rattle.std.proofs.Math.Seq.{drop-length}
use Rattle.ground.specs.Choose.{Below}
use Rattle.driver.specs.Digest.{taken}

module _ {A B : Type 0} (f : B → A → B) (b : B) (xs : List A) (i : ℕ) where
  -- one more element
  pub fold_on : (d : A) (x : B) → i < length xs → x ≡ f b (get_or xs i d) → foldl f x (drop (i + 1) xs) ≡ foldl f b (drop i xs)
  fold_on d x h e =
      ap (λ (y : B). foldl f y (drop (i + 1) xs)) e ∙ ap (λ (n : ℕ). foldl f (f b (get_or xs i d)) (drop n xs)) (add-one i) ∙
      sym (ap (λ (ys : List A). foldl f b ys) (drop-cons xs i d h))

  -- past the last element
  pub fold_end : i ≡ length xs → foldl f b (drop i xs) ≡ b
  fold_end e =
      ap (λ (n : ℕ). foldl f b (drop n xs)) e ∙ ap (λ (ys : List A). foldl f b ys) (drop-length xs)

-- a fold of which i elements are passed: that of the elements that are left, begun here, is the whole fold
pub record Folding {A B : Type 0} (f : B → A → B) (xs : List A) (first now : B) (i : ℕ) : Type 0 where
  pub within : i ≤ length xs
  pub rest : foldl f now (drop i xs) ≡ foldl f first xs

module _ {A B : Type 0} (f : B → A → B) (xs : List A) (first : B) where
  pub folding_none : Folding f xs first first 0
  folding_none = record { within = omega arith; rest = refl }

  -- one more element
  pub folding_on : (d : A) (now next : B) (i : ℕ) → i < length xs → next ≡ f now (get_or xs i d) → Folding f xs first now i → Folding f xs first next (i + 1)
  folding_on d now next i l e t = record { within = omega arith; rest = fold_on f now xs i d next l e ∙ t.rest }

  -- all of them
  pub folding_all : (now : B) (i : ℕ) → length xs ≤ i → Folding f xs first now i → now ≡ foldl f first xs
  folding_all now i l t = sym (fold_end f now xs i (omega (arith, t.within))) ∙ t.rest

-- a digest of which i numbers are taken
pub record Taking (xs : List ℕ) (h d i : ℕ) : Type 0 where
  pub below : d < 2147483647
  pub folding : Folding taken xs h d i

module _ (xs : List ℕ) (h : ℕ) where
  pub taking_none : h < 2147483647 → Taking xs h h 0
  taking_none b = record { below = b; folding = folding_none taken xs h }

  -- one more number
  pub taking_on : (d i e : ℕ) → i < length xs → Below 2147483647 (taken d (get_or xs i 0)) e → Taking xs h d i → Taking xs h e (i + 1)
  taking_on d i e l b t = record { below = b.below; folding = folding_on taken xs h 0 d e i l b.is t.folding }

  -- all of them
  pub taking_all : (d i : ℕ) → length xs ≤ i → Taking xs h d i → Below 2147483647 (foldl taken h xs) d
  taking_all d i l t = record { is = folding_all taken xs h d i l t.folding; below = t.below }
