-- Arrays that the library fills, place by place: what they are, as lists.
--   by_rule       a list is the rule's if each of its places is
--   from_rule     one made by calls that answer a rule, of their place
--   map_rule      one made of another by calls that answer a function of each element
-- Not here: arrays changed in place, in laws/Arrays.
-- Assumes nothing.
use Rattle.std.proofs.Common.{◌≡◌, ℕ, zero, suc, ◌+◌, ◌<◌, ◌≤◌, List, map, length, get_or, sym, ◌∙◌, ap, subst, arith}
use Rattle.std.proofs.lemmas.List.{ext_get_or, get_or-map, length-map}
use Rattle.std.proofs.Math.Decide.{ℕ_discrete}
use Rattle.std.specs.Array.{IsFromFnResultFrom, IsFromFnResult, IsMapOf}
use Rattle.std.specs.Fn.{Called, Mut}
use Rattle.ground.specs.Tab.{tab}
use Rattle.ground.specs.laws.Arrays.{tab_ext, tab_self}

pub by_rule : {B : Type 0} (rule : ℕ → B) (n : ℕ) (ys : List B) (d : B) → length ys ≡ n → ((k : ℕ) → k < n → get_or ys k d ≡ rule k) → ys ≡ tab n rule
by_rule rule n ys d long each =
    sym (tab_self ys d) ∙ ap (λ (m : ℕ). tab m (λ k. get_or ys k d)) long ∙ tab_ext n (λ k. get_or ys k d) rule each

module _ {F B : Type 0} (g : Mut F (ℕ × Unit {0}) B) (rule : ℕ → B) (f : F) (says : (i : ℕ) (y : B) (q : F) → Called g f (i, tt) y q → (q ≡ f) × (y ≡ rule i)) where
  from_place : (n i : ℕ) (ys : List B) (d : B) → IsFromFnResultFrom g f ys i n → (k : ℕ) → i ≤ k → k < i + n → get_or ys k d ≡ rule k
  from_place zero i ys d h k a b = absurd (omega (arith, a, b))
  from_place (suc n) i ys d h k a b =
      let said = says i h.1 h.0 h.3 in
      go (ℕ_discrete i k) (λ l r. from_place n (i + 1) ys d (subst (λ (q : F). IsFromFnResultFrom g q ys (i + 1) n) said.0 h.4) k l r)
    where
      go : Dec (i ≡ k) → (i + 1 ≤ k → k < i + 1 + n → get_or ys k d ≡ rule k) → get_or ys k d ≡ rule k
      go (yes e) more = subst (λ (j : ℕ). get_or ys j d ≡ rule j) e (h.2.1 d ∙ (says i h.1 h.0 h.3).1)
      go (no e) more = more (omega (arith, a, e)) (omega (arith, b))

  pub from_rule : (ys : List B) (n : ℕ) (d : B) → IsFromFnResult g f ys n → ys ≡ tab n rule
  from_rule ys n d h = by_rule rule n ys d h.long (λ k l. from_place n 0 ys d h.each k (omega arith) (omega (arith, l)))

module _ {F A B : Type 0} (g : Mut F (A × Unit {0}) B) (change : A → B) (f : F) (says : (p : F) (x : A) (y : B) (q : F) → Called g p (x, tt) y q → y ≡ change x) where
  pub map_rule : (xs : List A) (ys : List B) (n : ℕ) (d : A) (e : B) → length xs ≡ n → IsMapOf g f xs ys n → ys ≡ map change xs
  map_rule xs ys n d e l h =
      ext_get_or e ys (map change xs) (h.long ∙ sym (length-map xs change ∙ l))
      (λ k b.
      let in_n : k < n = omega (arith, b, h.long) in
      let in_xs : k < length xs = omega (arith, in_n, l) in
      let a = h.at k d e in_n in
      says a.0 _ _ a.1 a.2 ∙ sym (get_or-map change xs k d e in_xs))
