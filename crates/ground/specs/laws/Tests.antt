-- The branch that the code took is the definition's branch: `search cases` or `search tests` goes from what a branch tells and a callee gave to what the definition asks.
--   same             r stands for a, so a is whatever r is
--   other            r stands for n, and is not k
--   alike, unequal   a number and k, under `not`
--   both, masked     two tests at once, one of them on what a callee gave
--   cases            what is chosen by a test, with `same` and `other`
--   tests            all of these
-- Not here: choosing, in Rows.
-- Assumes nothing.
use Rattle.std.specs.Prelude.{◌≡◌, Bool, true, false, not, ◌&&◌, ℕ, eqb}
use Rattle.std.proofs.Common.{sym, ◌∙◌, ap, eq-eqb, ne_eqb}
use Rattle.ground.specs.laws.Rows.{pick_true, pick-false}

pub same : {A : Type 0} (r a x : A) → r ≡ a → r ≡ x → a ≡ x
same r a x e f = sym e ∙ f

pub other : (r n k : ℕ) → r ≡ n → (r ≡ k → ⊥) → eqb n k ≡ false
other r n k e f = ne_eqb n k (λ q. f (e ∙ q))

pub unequal : (n k : ℕ) → (n ≡ k → ⊥) → not (eqb n k) ≡ true
unequal n k f = ap not (ne_eqb n k f)

pub alike : (n k : ℕ) → n ≡ k → not (eqb n k) ≡ false
alike n k e = ap not (eq-eqb n k e)

pub both : (r t s x : Bool) → r ≡ t → (r && s) ≡ x → (t && s) ≡ x
both r t s x e f = rw e at f

pub masked : (r n k : ℕ) (s x : Bool) → r ≡ n → (s && eqb r k) ≡ x → (s && eqb n k) ≡ x
masked r n k s x e f = rw e at f

-- a number of cases, each of one test
pub ruleset cases = (pick_true, pick-false, eq-eqb, same, other)

-- tests under `not` and two at once besides; slower
pub ruleset tests = (pick_true, pick-false, eq-eqb, ne_eqb, same, other, unequal, alike, both, masked)
