-- Laws of choosing, of tests, and of the first row of a table that applies.
--   pick_true, pick-false what is chosen
--   bit_below             a bit is below 2
--   or-false, or-true, and-true   what an `or` or an `and` of tests says of its two tests
--   Gives, first_gives    a table gives a number: the rows before it do not apply, and its own does; 0 where no row applies
--   Passed, first_zero    a table of numbers other than 0 gives 0 exactly where no row of it applies
--   absent, never, first_at   a number that stands in no row is not given; one that stands in one row alone, exactly where that row applies and none before it
--   first_then, first_stops, first_both   a table that is two tables, one after the other
--   first_idle            a last row that does not apply where the others give 0 changes no number
--   Puts, first_put       a row that is put into a table changes no number, or gives its own where the rows after it decided
-- Not here: what a row and a table are, in specs/Choose; finding the branch that the code took, in Tests.
-- Assumes nothing.
use Rattle.std.specs.Prelude.{◌≡◌, refl, Bool, true, false, not, ◌&&◌, ◌||◌, List, [], ◌∷◌, ◌++◌, ◌↔◌, ◌⊎◌, ℕ, ◌<◌, eqb, ltb}
use Rattle.std.proofs.Common.{sym, ◌∙◌, inl, inr, arith, lit<, ltb-true}
use Rattle.std.proofs.Math.Decide.{ℕ_discrete}
use Rattle.std.proofs.lemmas.Bool.{eqb-false, not-true}
use Rattle.ground.specs.Choose.{pick, bit, Row, first_of}

pub pick_true : {A : Type 0} (t : Bool) (a b : A) → t ≡ true → pick t a b ≡ a
unfolding pick
pick_true t a b e = rw e

pub pick-false : {A : Type 0} (t : Bool) (a b : A) → t ≡ false → pick t a b ≡ b
unfolding pick
pick-false t a b e = rw e

pub bit_below : (t : Bool) → bit t < 2
unfolding bit
bit_below true = lit< tt
bit_below false = lit< tt

-- where an `or` is false both tests are
pub or-false : (a b : Bool) → (a || b) ≡ false → (a ≡ false) × (b ≡ false)
or-false true b e = (cc, cc)
or-false false b e = (refl, e)

-- where an `or` is true one of its tests is
pub or-true : (a b : Bool) → (a || b) ≡ true → (a ≡ true) ⊎ (b ≡ true)
or-true true b e = inl refl
or-true false b e = inr e

-- where an `and` is true both tests are
pub and-true : (a b : Bool) → (a && b) ≡ true → (a ≡ true) × (b ≡ true)
and-true true b e = (refl, e)
and-true false b e = (e, cc)

-- where both tests are false their `or` is
pub both_false : (a b : Bool) → a ≡ false → b ≡ false → (a || b) ≡ false
both_false a b p q = cc

-- a table gives k: some row applies, says k, and none before it applies; or no row applies and k is 0
abbrev pub Gives : List Row → ℕ → Type 0
Gives [] k = k ≡ 0
Gives (r ∷ rs) k = ((r.applies ≡ true) × (k ≡ r.number)) ⊎ ((r.applies ≡ false) × Gives rs k)

to : (rs : List Row) (k : ℕ) → first_of rs ≡ k → Gives rs k
unfolding first_of pick
to [] k e = sym e
to (r ∷ rs) k e = go r.applies refl (to rs)
  where
    go : (t : Bool) → r.applies ≡ t → ((n : ℕ) → first_of rs ≡ n → Gives rs n) → Gives (r ∷ rs) k
    go true a more = inl (a, sym e ∙ rw a)
    go false a more = inr (a, more k (sym (rw a) ∙ e))

from : (rs : List Row) (k : ℕ) → Gives rs k → first_of rs ≡ k
unfolding first_of pick
from [] k e = sym e
from (r ∷ rs) k (inl h) = rw h.0 (sym h.1)
from (r ∷ rs) k (inr h) = rw h.0 (from rs k h.1)

-- the number of the first row that applies is what the table gives, and the only one
pub first_gives : (rs : List Row) (k : ℕ) → (first_of rs ≡ k) ↔ Gives rs k
first_gives rs k = (to rs k, from rs k)

-- ---- a table that gives 0

-- every number of the table is other than 0: computed, whatever the tests are
abbrev pub numbered : List Row → Bool
numbered [] = true
numbered (r ∷ rs) = ltb 0 r.number && numbered rs

-- no row of the table applies
abbrev pub Passed : List Row → Type 0
Passed [] = Unit {0}
Passed (r ∷ rs) = (r.applies ≡ false) × Passed rs

passed : (rs : List Row) → numbered rs ≡ true → first_of rs ≡ 0 → Passed rs
unfolding first_of pick
passed [] n e = tt
passed (r ∷ rs) n e = go r.applies refl (passed rs)
  where
    go : (t : Bool) → r.applies ≡ t → (numbered rs ≡ true → first_of rs ≡ 0 → Passed rs) → Passed (r ∷ rs)
    go true a more =
        let z : r.number ≡ 0 = sym (rw a) ∙ e in
        absurd (omega (arith, z, ltb-true 0 r.number (and-true (ltb 0 r.number) (numbered rs) n).0))
    go false a more = (a, more (and-true (ltb 0 r.number) (numbered rs) n).1 (sym (rw a) ∙ e))

zero : (rs : List Row) → Passed rs → first_of rs ≡ 0
unfolding first_of pick
zero [] p = refl
zero (r ∷ rs) p = rw p.0 (zero rs p.1)

-- a table gives 0 exactly where no row applies
pub first_zero : (rs : List Row) → numbered rs ≡ true → (first_of rs ≡ 0) ↔ Passed rs
first_zero rs n = (passed rs n, zero rs)

-- ---- a number that stands in one row alone

-- k is not 0, and no row of the table has it: computed, whatever the tests are
abbrev pub absent : ℕ → List Row → Bool
absent k [] = ltb 0 k
absent k (r ∷ rs) = not (eqb r.number k) && absent k rs

-- what a row says of the number that stands in none
other : (r : Row) (rs : List Row) (k : ℕ) → absent k (r ∷ rs) ≡ true → (r.number ≡ k → ⊥) × (absent k rs ≡ true)
other r rs k n =
    let p = and-true (not (eqb r.number k)) (absent k rs) n in
    (eqb-false _ _ (not-true _ p.0), p.1)

-- the table does not give it
pub never : (rs : List Row) (k : ℕ) → absent k rs ≡ true → first_of rs ≡ k → ⊥
unfolding first_of pick
never [] k n e = omega (arith, ltb-true 0 k n)
never (r ∷ rs) k n e = go r.applies refl (never rs k)
  where
    go : (t : Bool) → r.applies ≡ t → (absent k rs ≡ true → first_of rs ≡ k → ⊥) → ⊥
    go true a more = (other r rs k n).0 (sym (rw a) ∙ e)
    go false a more = more (other r rs k n).1 (sym (rw a) ∙ e)

-- so the table gives it exactly where its row applies and none before it
pub first_at : (rs : List Row) (r : Row) (ss : List Row) → absent r.number rs ≡ true → absent r.number ss ≡ true → (first_of (rs ++ (r ∷ ss)) ≡ r.number) ↔ (Passed rs × (r.applies ≡ true))
unfolding first_of pick
first_at rs r ss n m = (there rs n, back rs)
  where
    here : (t : Bool) → r.applies ≡ t → first_of (r ∷ ss) ≡ r.number → r.applies ≡ true
    here true a e = a
    here false a e = absurd (never ss r.number m (sym (rw a) ∙ e))

    there : (qs : List Row) → absent r.number qs ≡ true → first_of (qs ++ (r ∷ ss)) ≡ r.number → Passed qs × (r.applies ≡ true)
    there [] k e = (tt, here r.applies refl e)
    there (q ∷ qs) k e = go q.applies refl (there qs)
      where
        go : (t : Bool) → q.applies ≡ t → (absent r.number qs ≡ true → first_of (qs ++ (r ∷ ss)) ≡ r.number → Passed qs × (r.applies ≡ true)) → Passed (q ∷ qs) × (r.applies ≡ true)
        go true a more = absurd ((other q qs r.number k).0 (sym (rw a) ∙ e))
        go false a more = let p = more (other q qs r.number k).1 (sym (rw a) ∙ e) in ((a, p.0), p.1)

    back : (qs : List Row) → Passed qs × (r.applies ≡ true) → first_of (qs ++ (r ∷ ss)) ≡ r.number
    back [] h = rw h.1
    back (q ∷ qs) h = rw h.0.0 (back qs (h.0.1, h.1))

-- ---- a table that is two tables

-- where no row of the first applies, the second decides
pub first_then : (rs ss : List Row) → numbered rs ≡ true → first_of rs ≡ 0 → first_of (rs ++ ss) ≡ first_of ss
unfolding first_of pick
first_then rs ss n e = go rs ((first_zero rs n).0 e)
  where
    go : (qs : List Row) → Passed qs → first_of (qs ++ ss) ≡ first_of ss
    go [] p = refl
    go (q ∷ qs) p = rw p.0 (go qs p.1)

-- where the second gives 0 if the first does, the first decides
first_decides : (rs ss : List Row) → (first_of rs ≡ 0 → first_of ss ≡ 0) → first_of (rs ++ ss) ≡ first_of rs
unfolding first_of pick
first_decides [] ss h = h refl
first_decides (r ∷ rs) ss h = go r.applies refl (first_decides rs ss)
  where
    go : (t : Bool) → r.applies ≡ t → ((first_of rs ≡ 0 → first_of ss ≡ 0) → first_of (rs ++ ss) ≡ first_of rs) → pick r.applies r.number (first_of (rs ++ ss)) ≡ pick r.applies r.number (first_of rs)
    go true a more = rw a
    go false a more = rw a (more (λ e. h (rw a e)))

-- so it does where it does not give 0
pub first_stops : (rs ss : List Row) → (first_of rs ≡ 0 → ⊥) → first_of (rs ++ ss) ≡ first_of rs
first_stops rs ss h = first_decides rs ss (λ e. absurd (h e))

-- and a last row that does not apply where the others give 0 changes no number
pub first_idle : (rs : List Row) (r : Row) → (first_of rs ≡ 0 → r.applies ≡ false) → first_of (rs ++ (r ∷ [])) ≡ first_of rs
unfolding first_of
first_idle rs r idle = first_decides rs (r ∷ []) (λ e. pick-false r.applies r.number 0 (idle e))

-- what a row that is put into a table does: it changes no number, or gives its own where the rows after it decided
abbrev pub Puts : List Row → Row → List Row → Type 0
Puts rs r ss =
    (first_of (rs ++ (r ∷ ss)) ≡ first_of (rs ++ ss)) ⊎ ((first_of (rs ++ (r ∷ ss)) ≡ r.number) × (first_of (rs ++ ss) ≡ first_of ss))

pub first_put : (rs : List Row) (r : Row) (ss : List Row) → Puts rs r ss
unfolding first_of pick
first_put [] r ss = go r.applies refl
  where
    go : (t : Bool) → r.applies ≡ t → Puts [] r ss
    go true a = inr (rw a, refl)
    go false a = inl (rw a)
first_put (q ∷ rs) r ss = go q.applies refl (first_put rs r ss)
  where
    go : (t : Bool) → q.applies ≡ t → Puts rs r ss → Puts (q ∷ rs) r ss
    go true a more = inl (rw a)
    go false a (inl e) = inl (rw a e)
    go false a (inr h) = inr (rw a h.0, rw a h.1)

-- the whole gives 0 exactly where both parts do
pub first_both : (rs ss : List Row) → numbered rs ≡ true → (first_of (rs ++ ss) ≡ 0) ↔ ((first_of rs ≡ 0) × (first_of ss ≡ 0))
first_both rs ss n = (λ e. go e (ℕ_discrete (first_of rs) 0), λ h. first_then rs ss n h.0 ∙ h.1)
  where
    go : first_of (rs ++ ss) ≡ 0 → Dec (first_of rs ≡ 0) → (first_of rs ≡ 0) × (first_of ss ≡ 0)
    go e (yes z) = (z, sym (first_then rs ss n z) ∙ e)
    go e (no h) = absurd (h (sym (first_stops rs ss h) ∙ e))
