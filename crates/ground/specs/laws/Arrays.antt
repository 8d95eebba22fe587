-- An array changed in place or filled, one element after the other.
--   map_to       the first so many elements changed, the rest as they were
--   map-one     one more element
--   map_all     all of them: the map of the list
--   tab_length, tab_last, get_d_tab   a list by its rule: how long it is, one element more, and each of them
--   tab_ext, tab_self   rules that agree, and the rule that a list itself is
--   tab_to       the first so many elements by the rule, the rest as they were: tab_none, tab_one, tab_all as above
--   tab_in, tab_past, tab_to_length   each of its elements, and its length
--   take_most, drop_most   no more is taken or dropped than there is
--   next, shift_last   every place takes the next one's element, and the last another
-- Not here: lists in general, in the library (lib.Seq, lib.ListN).
-- Assumes nothing.
use Rattle.std.specs.Prelude.{◌≡◌, length, get_or, set, take, drop}
use Rattle.std.proofs.Common.{◌∙◌, sym, le_of_suc-le-suc, not-suc-le-zero, arith}
use Rattle.std.proofs.Math.Path.{refl, ap, subst⁻¹}
use mathlib.Core.List.{List, [], ◌∷◌, ◌++◌, map, append-nil}
use Prim.Native.Nat.{ℕ, zero, suc, ◌<◌, ◌≤◌, min}
use Rattle.std.proofs.Math.Nat.{suc-min-suc, min-zero, zero-min}
use Rattle.std.proofs.Math.ListN.{get_or-eq_default, get_or-append}
use Rattle.std.proofs.Math.Seq.{drop-length}
use Rattle.ground.specs.Tab.{tab}

module _ {A : Type 0} (f : A → A) where
  -- the first n elements changed by f
  unfoldable pub map_to : ℕ → List A → List A
  map_to zero xs = xs
  map_to (suc n) [] = []
  map_to (suc n) (x ∷ xs) = f x ∷ map_to n xs

  pub map-none : (xs : List A) → xs ≡ map_to 0 xs
  unfolding map_to
  map-none xs = refl

  pub map-one : (n : ℕ) (xs : List A) (d : A) → n < length xs → set (map_to n xs) n (f (get_or (map_to n xs) n d)) ≡ map_to (suc n) xs
  unfolding map_to
  map-one n [] d h = absurd (not-suc-le-zero h)
  map-one zero (x ∷ xs) d h = refl
  map-one (suc n) (x ∷ xs) d h = ap (λ (ys : List A). f x ∷ ys) (map-one n xs d (le_of_suc-le-suc h))

  pub map_all : (xs : List A) → map_to (length xs) xs ≡ map f xs
  unfolding map_to
  map_all [] = refl
  map_all (x ∷ xs) = ap (λ (ys : List A). f x ∷ ys) (map_all xs)

  pub map_length : (n : ℕ) (xs : List A) → length (map_to n xs) ≡ length xs
  unfolding map_to
  map_length zero xs = refl
  map_length (suc n) [] = refl
  map_length (suc n) (x ∷ xs) = ap suc (map_length n xs)

module _ {A : Type 0} where
  pub tab_length : (n : ℕ) (f : ℕ → A) → length (tab n f) ≡ n
  unfolding tab
  tab_length zero f = refl
  tab_length (suc n) f = ap suc (tab_length n (λ k. f (suc k)))

  pub tab_last : (n : ℕ) (f : ℕ → A) → tab (suc n) f ≡ tab n f ++ (f n ∷ [])
  unfolding tab
  tab_last zero f = refl
  tab_last (suc n) f = ap (λ (ys : List A). f 0 ∷ ys) (tab_last n (λ k. f (suc k)))

  pub get_d_tab : (n : ℕ) (f : ℕ → A) (k : ℕ) (d : A) → k < n → get_or (tab n f) k d ≡ f k
  unfolding tab
  get_d_tab zero f k d h = absurd (not-suc-le-zero h)
  get_d_tab (suc n) f zero d h = refl
  get_d_tab (suc n) f (suc k) d h = get_d_tab n (λ j. f (suc j)) k d (le_of_suc-le-suc h)

  -- two rules that agree so far, and the rule that a list itself is
  pub tab_ext : (n : ℕ) (f g : ℕ → A) → ((k : ℕ) → k < n → f k ≡ g k) → tab n f ≡ tab n g
  unfolding tab
  tab_ext zero f g h = refl
  tab_ext (suc n) f g h =
      ap (λ (y : A). y ∷ tab n (λ k. f (suc k))) (h 0 (omega arith)) ∙ ap (λ (ys : List A). g 0 ∷ ys) (tab_ext n (λ k. f (suc k)) (λ k. g (suc k)) (λ k l. h (suc k) (omega (arith, l))))

  pub tab_self : (xs : List A) (d : A) → tab (length xs) (λ k. get_or xs k d) ≡ xs
  unfolding tab
  tab_self [] d = refl
  tab_self (x ∷ xs) d = ap (λ (ys : List A). x ∷ ys) (tab_self xs d)

  -- the first n elements by the rule f, the rest as in xs
  abbrev pub tab_to : ℕ → (ℕ → A) → List A → List A
  tab_to n f xs = tab n f ++ drop n xs

  pub tab_none : (f : ℕ → A) (xs : List A) → xs ≡ tab_to 0 f xs
  unfolding tab
  tab_none f xs = refl

  pub tab_one : (n : ℕ) (f : ℕ → A) (xs : List A) → n < length xs → set (tab_to n f xs) n (f n) ≡ tab_to (suc n) f xs
  unfolding tab
  tab_one n f [] h = absurd (not-suc-le-zero h)
  tab_one zero f (x ∷ xs) h = refl
  tab_one (suc n) f (x ∷ xs) h = ap (λ (ys : List A). f 0 ∷ ys) (tab_one n (λ k. f (suc k)) xs (le_of_suc-le-suc h))

  pub tab_all : (f : ℕ → A) (xs : List A) → tab_to (length xs) f xs ≡ tab (length xs) f
  tab_all f xs = ap (λ (ys : List A). tab (length xs) f ++ ys) (drop-length xs) ∙ append-nil (tab (length xs) f)

  -- every element of such a list, and that it is as long as it was
  pub tab_in : (n : ℕ) (f : ℕ → A) (xs : List A) (k : ℕ) (d : A) → k < n → get_or (tab_to n f xs) k d ≡ f k
  tab_in n f xs k d h = get_or-append (tab n f) (drop n xs) d k (subst⁻¹ (λ (m : ℕ). k < m) (tab_length n f) h) ∙ get_d_tab n f k d h

  pub tab_past : (n : ℕ) (f : ℕ → A) (xs : List A) (k : ℕ) (d : A) → n ≤ length xs → n ≤ k → get_or (tab_to n f xs) k d ≡ get_or xs k d
  unfolding tab
  tab_past zero f xs k d h l = refl
  tab_past (suc n) f [] k d h l = absurd (not-suc-le-zero h)
  tab_past (suc n) f (x ∷ xs) zero d h l = absurd (not-suc-le-zero l)
  tab_past (suc n) f (x ∷ xs) (suc k) d h l = tab_past n (λ j. f (suc j)) xs k d (le_of_suc-le-suc h) (le_of_suc-le-suc l)

  pub tab_to_length : (n : ℕ) (f : ℕ → A) (xs : List A) → n ≤ length xs → length (tab_to n f xs) ≡ length xs
  unfolding tab
  tab_to_length zero f xs h = refl
  tab_to_length (suc n) f [] h = absurd (not-suc-le-zero h)
  tab_to_length (suc n) f (x ∷ xs) h = ap suc (tab_to_length n (λ j. f (suc j)) xs (le_of_suc-le-suc h))

  -- no more can be taken, or dropped, than there is
  pub take_most : (k : ℕ) (xs : List A) → take (min k (length xs)) xs ≡ take k xs
  take_most zero xs = rw (zero-min (length xs))
  take_most (suc k) [] = rw (min-zero (suc k))
  take_most (suc k) (x ∷ xs) = rw (suc-min-suc k (length xs)) (ap (λ (ys : List A). x ∷ ys) (take_most k xs))

  pub drop_most : (k : ℕ) (xs : List A) → drop (min k (length xs)) xs ≡ drop k xs
  drop_most zero xs = rw (zero-min (length xs))
  drop_most (suc k) [] = rw (min-zero (suc k))
  drop_most (suc k) (x ∷ xs) = rw (suc-min-suc k (length xs)) (drop_most k xs)

  -- the element of the next place, and d where there is none
  abbrev pub next : A → List A → ℕ → A
  next d xs k = get_or xs (suc k) d

  -- every place of a list with the next one's element: the list without its first, and d behind it
  shift : (d x : A) (xs : List A) → tab (length (x ∷ xs)) (next d (x ∷ xs)) ≡ xs ++ (d ∷ [])
  unfolding tab
  shift d x [] = refl
  shift d x (y ∷ ys) = ap (λ (zs : List A). y ∷ zs) (shift d y ys)

  -- the same where every place but the last has it, and then the last is given d
  pub shift_last : (n : ℕ) (d : A) (xs : List A) → length xs ≡ suc n → set (tab_to n (next d xs) xs) n d ≡ drop 1 xs ++ (d ∷ [])
  shift_last n d [] e = absurd (omega (arith, e))
  shift_last n d (x ∷ xs) e =
      ap (λ (y : A). set (tab_to n (next d (x ∷ xs)) (x ∷ xs)) n y) (sym (get_or-eq_default (x ∷ xs) d {n = suc n} (omega (arith, e))))
      ∙ tab_one n (next d (x ∷ xs)) (x ∷ xs) (omega (arith, e))
      ∙ ap (λ (k : ℕ). tab_to k (next d (x ∷ xs)) (x ∷ xs)) (sym e)
      ∙ tab_all (next d (x ∷ xs)) (x ∷ xs)
      ∙ shift d x xs
