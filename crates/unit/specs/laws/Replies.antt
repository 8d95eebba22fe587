-- The number of each answer; what a call leaves, refused or not (document 01, below the table of refusals).
--   turn_numbers                 every answer of an inspection with its number
--   guarded_refused, _accepted   a refused call gives its number, 0 and the same record; another what it does
--   Answered, guarded_answers    a reply that has the number k, and keeps the record where k is a refusal
--   setup_accepted, _refused     of setup: a fresh unit, or the number and the record of zeros
-- In proofs/laws/Replies, since they rest on these: either_way, guarded_answers, setup_accepted, setup_refused.
-- Not here: what a reply is, in specs/Reply; that every call answers so, in calls, laws/Refusals.
-- Assumes nothing.
use Rattle.std.specs.Prelude.{◌≡◌, refl, [], ◌∷◌, map, ℕ, eqb}
use Rattle.std.proofs.Common.{eq-eqb, ne_eqb}
use Rattle.ground.specs.laws.Rows.{pick_true, pick-false}
use Rattle.interrupt.specs.declared.Service.TheVariants.{Input, Output}
use Rattle.unit.specs.declared.mux.Mux.{Mux}
use Rattle.unit.specs.declared.reply.Turn.TheVariants.{Nothing, Idle, Served}
use Rattle.unit.specs.Reply.{Replied}
use Rattle.unit.specs.Reply.{turn_number, refused, guarded}

-- a stopped or refused inspection, a turn that serves nothing, input, output
pub turn_numbers : map turn_number (Nothing ∷ Idle ∷ Served Input ∷ Served Output ∷ []) ≡ 0 ∷ 1 ∷ 2 ∷ 3 ∷ []
turn_numbers = refl

-- a refused call gives its number, no further result and the same record
pub guarded_refused : (k : ℕ) (u : Mux) (r : Replied) → (k ≡ 0 → ⊥) → guarded k u r ≡ refused k u
unfolding guarded
guarded_refused k u r h = pick-false (eqb k 0) r (refused k u) (ne_eqb k 0 h)

-- a call that is not refused gives what it does
pub guarded_accepted : (k : ℕ) (u : Mux) (r : Replied) → k ≡ 0 → guarded k u r ≡ r
unfolding guarded
guarded_accepted k u r e = pick_true (eqb k 0) r (refused k u) (eq-eqb k 0 e)

-- a reply that has the number k, and keeps the record u where k is a refusal
pub record Answered (k : ℕ) (u : Mux) (r : Replied) : Type 0 where
  pub number : r.reply.code ≡ k
  pub keeps : (k ≡ 0 → ⊥) → r ≡ refused k u
