-- The number of each answer; what a call leaves, refused or not (document 01, below the table of refusals).
--   either_way                   what holds of the record itself and of the record after holds of what a call leaves
--   Answered, guarded_answers    a reply that has the number k, and keeps the record where k is a refusal
--   setup_accepted, _refused     of setup: a fresh unit, or the number and the record of zeros
-- Here, and not in specs/laws/Replies, is what rests on other laws of specs/: an edit of a definition counts as refused where nothing in specs/ rests on the
-- law that it breaks.
-- Assumes nothing.
use Rattle.std.specs.Prelude.{◌≡◌, ℕ}
use Rattle.std.proofs.Math.Decide.{ℕ_discrete}
use Rattle.unit.specs.declared.mux.Setting.{Setting}
use Rattle.unit.specs.declared.mux.Mux.{Mux}
use Rattle.unit.specs.Reply.{Replied}
use Rattle.unit.specs.Record.{fresh, no_mux}
use Rattle.unit.specs.Reply.{refused, accepted, guarded}
use Rattle.unit.specs.Refusals.{refusal, of_setup}
use Rattle.unit.specs.Setup.{setup}
use Rattle.unit.specs.laws.Replies.{guarded_refused, guarded_accepted, Answered}

-- what holds of the record itself and of the record after a call that is done holds of the record that the call leaves
pub either_way : (C : Mux → Type 0) (k : ℕ) (u : Mux) (r : Replied) → C u → C r.mux → C (guarded k u r).mux
either_way C k u r a b = go (ℕ_discrete k 0)
  where
    go : Dec (k ≡ 0) → C (guarded k u r).mux
    go (yes e) = rw (guarded_accepted k u r e) b
    go (no h) = rw (guarded_refused k u r h) a

-- a call refused by its number is such a reply
pub guarded_answers : (k : ℕ) (u : Mux) (r : Replied) → r.reply.code ≡ 0 → Answered k u (guarded k u r)
guarded_answers k u r z = record { number = go (ℕ_discrete k 0); keeps = guarded_refused k u r }
  where
    go : Dec (k ≡ 0) → (guarded k u r).reply.code ≡ k
    go (yes e) = rw (guarded_accepted k u r e) (rw (z, e))
    go (no h) = rw (guarded_refused k u r h)

-- a setup that is taken makes a fresh unit of that setting
pub setup_accepted : (s : Setting) → refusal (of_setup s) ≡ 0 → setup s ≡ accepted 0 (fresh s)
unfolding setup
setup_accepted s e = guarded_accepted (refusal (of_setup s)) no_mux (accepted 0 (fresh s)) e

-- a refused setup gives its number and the record of zeros
pub setup_refused : (s : Setting) → (refusal (of_setup s) ≡ 0 → ⊥) → setup s ≡ refused (refusal (of_setup s)) no_mux
unfolding setup
setup_refused s h = guarded_refused (refusal (of_setup s)) no_mux (accepted 0 (fresh s)) h
