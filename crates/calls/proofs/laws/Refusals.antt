-- Every call answers by the table's number, and a refusal changes nothing (document 01, the table of refusals).
--   step_refuses       of every call: a refused setup too keeps the record that stands
--   step_never_five    no call answers 5 (document 02, K10)
-- Here, and not in specs/laws/Refusals, is what rests on other laws of specs/: an edit of a definition counts as refused where nothing in specs/ rests on the
-- law that it breaks.
-- Assumes nothing.
use Rattle.std.specs.Prelude.{◌≡◌, refl, List, ℕ, eqb}
use Rattle.std.proofs.Common.{sym, ◌∙◌, ap, ne_eqb}
use Rattle.std.proofs.Math.Decide.{ℕ_discrete}
use Rattle.ground.specs.laws.Rows.{pick-false}
use Rattle.unit.specs.declared.mux.Setting.{Setting}
use Rattle.unit.specs.declared.mux.Mux.{Mux}
use Rattle.unit.specs.Record.{fresh, no_mux}
use Rattle.unit.specs.Reply.{refused, accepted, World}
use Rattle.unit.specs.Refusals.{refusal, of_setup, of_sweep}
use Rattle.unit.specs.Setup.{setup}
use Rattle.unit.specs.laws.Refusals.{never_five}
use Rattle.unit.specs.laws.Replies.{Answered, guarded_refused}
use Rattle.unit.proofs.laws.Replies.{guarded_answers}
use Rattle.sweep.specs.Sweep.{sweep}
use Rattle.sweep.specs.laws.Sweep.{sweep_refused, sweep_accepted}
use Rattle.calls.specs.declared.call.What.{What}
use Rattle.calls.specs.declared.call.What.TheVariants.{Setup, Do, Sweep}
use Rattle.calls.specs.declared.call.Call.{Call}
use Rattle.calls.specs.Calls.{set_up, step_of, step, given_of}
use Rattle.calls.specs.laws.Refusals.{Refuses, on_record, performed_refuses}

-- a setup beside a record that stands
set_up_lem : (u : Mux) (s : Setting) → Answered (refusal (of_setup s)) u (set_up u (setup s))
unfolding set_up setup
set_up_lem u s =
    let k = refusal (of_setup s) in
    record {
      number = (guarded_answers k no_mux (accepted 0 (fresh s)) refl).number;
      keeps = λ h. ap (set_up u) (guarded_refused k no_mux (accepted 0 (fresh s)) h) ∙ ap (refused k) (pick-false (eqb k 0) no_mux u (ne_eqb k 0 h));
    }

-- a sweep
sweeps : (u : Mux) (m : List ℕ) (n : ℕ) (xs : List ℕ) → Refuses (refusal (of_sweep u m n xs)) u m xs (sweep u m n xs)
sweeps u m n xs = record { number = go (ℕ_discrete (refusal (of_sweep u m n xs)) 0); keeps = sweep_refused u m n xs }
  where
    go : Dec (refusal (of_sweep u m n xs) ≡ 0) → (sweep u m n xs).reply.code ≡ refusal (of_sweep u m n xs)
    go (yes e) = rw (sweep_accepted u m n xs e) (sym e)
    go (no h) = rw (sweep_refused u m n xs h)

by_what : (w : World) (xs : List ℕ) (s : Setting) (a : What) → Refuses (refusal (given_of w xs s a)) w.mux w.memory xs (step_of w xs s a)
unfolding step_of given_of
by_what w xs s Setup = on_record _ w.mux w.memory xs _ (set_up_lem w.mux s)
by_what w xs s (Do a) = performed_refuses w xs a
by_what w xs s (Sweep n) = sweeps w.mux w.memory n xs

-- every call
pub step_refuses : (w : World) (xs : List ℕ) (c : Call) → Refuses (refusal (given_of w xs c.setting c.what)) w.mux w.memory xs (step w xs c)
step_refuses w xs c = by_what w xs c.setting c.what

-- no call answers 5, whatever the record, the memory, the list and the arguments are
pub step_never_five : (w : World) (xs : List ℕ) (c : Call) → (step w xs c).reply.code ≡ 5 → ⊥
step_never_five w xs c e = never_five (given_of w xs c.setting c.what) (sym (step_refuses w xs c).number ∙ e)
