-- Laws of runs, over any machine.
--   run-append ..        the laws of a list that is two lists
--   total-add, -same     the sum of two numbers; numbers that agree at every act have one sum
--   run_keeps            what every act keeps
--   total_eq             what is spent, with what is left, is what is given, with what there was: if so for each act, then over the run
--   gather_eq            what is taken, followed by what is left, is what there was, followed by what is given: if so for each act, then over the run
--   gather_length        how long what is gathered is
--   never .. until_map   a test that nothing passes; weaker readings of what holds on the way
-- Not here: what a run and a sum over it are, in specs/Machine; places visited in rotation, in Rotation.
-- Assumes nothing.
use Rattle.std.specs.Prelude.{◌≡◌, false, ℕ, ◌+◌, ◌≤◌}
use Rattle.std.proofs.Math.Path.{refl, sym, ap}
use Rattle.std.proofs.Common.{◌∙◌}
use mathlib.Core.List.{List, [], ◌∷◌, ◌++◌, append-nil, append_assoc}
use native.Mathlib.Omega.{arith}
use Rattle.std.proofs.Math.ListN.{length, length-append}
use Rattle.ground.specs.Choose.{bit}
use Rattle.ground.specs.Machine.{run, total, tally, gather, Throughout, Every, Until}

module _ {S A : Type 0} (step : S → A → S) where
  -- ---- a list that is two lists

  pub run-append : (s : S) (xs ys : List A) → run step s (xs ++ ys) ≡ run step (run step s xs) ys
  unfolding run
  run-append s [] ys = refl
  run-append s (a ∷ xs) ys = run-append (step s a) xs ys

  pub total-append : (f : S → A → ℕ) (s : S) (xs ys : List A) → total step f s (xs ++ ys) ≡ total step f s xs + total step f (run step s xs) ys
  unfolding run total
  total-append f s [] ys = omega arith
  total-append f s (a ∷ xs) ys = omega (arith, total-append f (step s a) xs ys)

  -- what every act keeps holds after a list of them
  pub run_keeps : (C : S → Type 0) → ((s : S) (a : A) → C s → C (step s a)) → (s : S) (xs : List A) → C s → C (run step s xs)
  unfolding run
  run_keeps C keeps s [] c = c
  run_keeps C keeps s (a ∷ xs) c = run_keeps C keeps (step s a) xs (keeps s a c)

  -- ---- sums over a run

  -- what is spent, with what is left, is what is given, with what there was: if so for each act where C holds, and every act keeps C
  pub total_eq : (C : S → Type 0) → ((s : S) (a : A) → C s → C (step s a)) → (spent given : S → A → ℕ) (left : S → ℕ) → ((s : S) (a : A) → C s → spent s a + left (step s a) ≡ given s a + left s) → (s : S) (xs : List A) → C s → total step spent s xs + left (run step s xs) ≡ total step given s xs + left s
  unfolding run total
  total_eq C keeps spent given left each s [] c = omega arith
  total_eq C keeps spent given left each s (a ∷ xs) c =
      omega (arith, each s a c, total_eq C keeps spent given left each (step s a) xs (keeps s a c))

  -- the sum of two numbers is the two sums
  pub total-add : (f g : S → A → ℕ) (s : S) (xs : List A) → total step (λ r a. f r a + g r a) s xs ≡ total step f s xs + total step g s xs
  unfolding total
  total-add f g s [] = refl
  total-add f g s (a ∷ xs) = omega (arith, total-add f g (step s a) xs)

  -- two numbers that agree at every act have one sum
  pub total_same : (f g : S → A → ℕ) → ((s : S) (a : A) → f s a ≡ g s a) → (s : S) (xs : List A) → total step f s xs ≡ total step g s xs
  unfolding total
  total_same f g each s [] = refl
  total_same f g each s (a ∷ xs) = omega (arith, each s a, total_same f g each (step s a) xs)

  -- ---- lists over a run

  -- what is taken, followed by what is left, is what there was, followed by what is given: if so for each act that passes D where C holds, and such
  -- an act keeps C
  pub gather_eq : {B : Type 0} (C : S → Type 0) (D : S → A → Type 0) → ((s : S) (a : A) → D s a → C s → C (step s a)) → (taken given : S → A → List B) (left : S → List B) → ((s : S) (a : A) → D s a → C s → taken s a ++ left (step s a) ≡ left s ++ given s a) → (s : S) (xs : List A) → Every step D s xs → C s → gather step taken s xs ++ left (run step s xs) ≡ left s ++ gather step given s xs
  unfolding run gather
  gather_eq C D keeps taken given left each s [] d c = sym (append-nil (left s))
  gather_eq {B} C D keeps taken given left each s (a ∷ xs) d c =
      append_assoc (taken s a) (gather step taken (step s a) xs) (left (run step (step s a) xs))
      ∙ ap (λ (l : List B). taken s a ++ l) (gather_eq C D keeps taken given left each (step s a) xs d.1 (keeps s a d.0 c))
      ∙ sym (append_assoc (taken s a) (left (step s a)) (gather step given (step s a) xs))
      ∙ ap (λ (l : List B). l ++ gather step given (step s a) xs) (each s a d.0 c)
      ∙ append_assoc (left s) (given s a) (gather step given (step s a) xs)

  -- what is gathered is as long as its parts together
  pub gather_length : {B : Type 0} (f : S → A → List B) (s : S) (xs : List A) → length (gather step f s xs) ≡ total step (λ r a. length (f r a)) s xs
  unfolding gather total
  gather_length f s [] = refl
  gather_length f s (a ∷ xs) =
      length-append (f s a) (gather step f (step s a) xs) ∙ ap (λ n. length (f s a) + n) (gather_length f (step s a) xs)

  -- ---- an act of a list

  -- the list up to an act has at most the sum of the whole list, and that act's own number besides
  pub until_le : (f : S → A → ℕ) (C : S → Type 0) (s : S) (xs : List A) (u : Until step C s xs) → total step f s u.before + f (run step s u.before) u.here ≤ total step f s xs
  unfolding total
  until_le f C s xs u =
      omega (arith, ap (λ l. total step f s l) u.whole, total-append f s u.before (u.here ∷ u.later))

  -- a test that nothing passes
  pub never : (s : S) (xs : List A) → tally step (λ r a. false) s xs ≡ 0
  unfolding total bit
  never s [] = refl
  never s (a ∷ xs) = omega (arith, never (step s a) xs)

  -- what holds of every state met, read as something weaker
  pub throughout_map : (C D : S → Type 0) → ((s : S) → C s → D s) → (s : S) (xs : List A) → Throughout step C s xs → Throughout step D s xs
  throughout_map C D f s [] c = f s c
  throughout_map C D f s (a ∷ xs) c = (f s c.0, throughout_map C D f (step s a) xs c.1)

  -- and of every state met before an act
  abbrev pub until_map : (C D : S → Type 0) → ((s : S) → C s → D s) → (s : S) (xs : List A) → Until step C s xs → Until step D s xs
  until_map C D f s xs u =
      record {
        before = u.before;
        here = u.here;
        later = u.later;
        whole = u.whole;
        meanwhile = throughout_map C D f s u.before u.meanwhile;
      }
