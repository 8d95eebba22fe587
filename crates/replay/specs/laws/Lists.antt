-- A sweep's answer, record and memory do not depend on what is in its list, nor on places that no sweep may use.
--   same_sweep, same_zeros   two lists of 4096 places or more; zeros, and 4096 of them
--   call_same, played_by   so an event played with 4096 places of zeros leaves what it leaves with its recorded list
-- Not here: what a sweep puts into its list, in sweep.
-- Assumes nothing.
use Rattle.std.specs.Prelude.{◌≡◌, refl, Bool, true, false, not, List, [], ◌∷◌, ℕ, zero, suc, ◌≤◌, eqb, leb, ltb, length, take, replicate}
use Rattle.std.proofs.Common.{sym, ◌∙◌, ap, le_trans, le_of_suc-le-suc, not-suc-le-zero, arith, take_all, leb-true, leb-false, ltb-false, le-ltb, eqb-true}
use lib.ListN.{length-replicate}
use borrow.Author.Tests.{eqb-false}
use Rattle.ground.specs.Choose.{asked, Row, row, first_of}
use Rattle.ground.specs.laws.Rows.{first_zero, first_idle}
use Rattle.unit.specs.declared.mux.Mux.{Mux}
use Rattle.unit.specs.Reply.{refused, World, Looked, Outcome, outcome}
use Rattle.unit.specs.Refusals.{WORDS, MOST-INSPECTIONS, UNSOUND, BAD-MEMORY, NO-PORT, TOO-MANY, SHORT-LIST, unsound, refusal, table_of, call_rows, rows_of, of_sweep}
use Rattle.unit.specs.declared.mux.Setting.{Setting}
use Rattle.calls.specs.declared.call.What.{What}
use Rattle.calls.specs.declared.call.What.TheVariants.{Setup, Do, Sweep}
use Rattle.calls.specs.declared.call.Call.{Call}
use Rattle.calls.specs.Calls.{step_of, step}
use Rattle.recording.specs.declared.event.Event.{Event}
use Rattle.recording.specs.Event.{event_code}
use Rattle.replay.specs.Calls.{call_of}
use Rattle.replay.specs.Replay.{room, played, plays}
use Rattle.replay.specs.laws.Plays.{plays_bad, plays_write, plays_call, played_bad, played_write, played_call}
use Rattle.sweep.specs.Sweep.{Going, entered, going, sweep_from, set_out, arrived_at, sweep}
use Rattle.sweep.specs.laws.Sweep.{look, sweep_end, sweep_stopped, sweep_raised, sweep_more, sweep_refused, sweep_accepted}

-- all of a sweep on its way but its list
abbrev bare : Going → Going
bare s = record { made = s.made; used = s.used; mux = s.mux; memory = s.memory; list = [] }

-- a sweep on its way, with a list
abbrev with : Going → List ℕ → Going
with s xs = record { made = s.made; used = s.used; mux = s.mux; memory = s.memory; list = xs }

-- one inspection more, whatever the list
one_same : (s : Going) (l : Looked) → going s l ≡ with (bare (going s l)) (entered l.reply.answer s.used s.list)
unfolding going
one_same s l = refl

bare_same : (s : Going) (l : Looked) (xs ys : List ℕ) → bare (going (with s xs) l) ≡ bare (going (with s ys) l)
unfolding going
bare_same s l xs ys = refl

-- the inspections do not ask for the list
same_from : (n : ℕ) (s : Going) (xs ys : List ℕ) → bare (sweep_from n (with s xs)) ≡ bare (sweep_from n (with s ys))
same_from zero s xs ys = ap bare (sweep_end (with s xs)) ∙ sym (ap bare (sweep_end (with s ys)))
same_from (suc n) s xs ys = go s.mux.runs refl (look s).reply.answer.raised refl (same_from n (bare (going (with s xs) (look s))))
  where
    next : List ℕ → Going
    next zs = going (with s zs) (look s)

    go : (t : Bool) → s.mux.runs ≡ t → (r : Bool) → (look s).reply.answer.raised ≡ r → ((some other : List ℕ) → bare (sweep_from n (with (bare (next xs)) some)) ≡ bare (sweep_from n (with (bare (next xs)) other)))
        → bare (sweep_from (suc n) (with s xs)) ≡ bare (sweep_from (suc n) (with s ys))
    go false p r q more = ap bare (sweep_stopped (suc n) (with s xs) p) ∙ sym (ap bare (sweep_stopped (suc n) (with s ys) p))
    go true p true q more = ap bare (sweep_raised n (with s xs) p q) ∙ bare_same s (look s) xs ys ∙ sym (ap bare (sweep_raised n (with s ys) p q))
    go true p false q more =
        let a = (look s).reply.answer in
        ap bare (sweep_more n (with s xs) p q) ∙ ap (λ (g : Going). bare (sweep_from n g)) (one_same (with s xs) (look s))
        ∙ more (entered a s.used xs) (entered a s.used ys)
        ∙ ap (λ (g : Going). bare (sweep_from n (with g (entered a s.used ys)))) (bare_same s (look s) xs ys)
        ∙ sym (ap (λ (g : Going). bare (sweep_from n g)) (one_same (with s ys) (look s))) ∙ sym (ap bare (sweep_more n (with s ys) p q))

-- the rows that a sweep meets before its list is looked at
abbrev front : Mux → List ℕ → ℕ → List Row
front u m n = row UNSOUND (unsound u) ∷ row BAD-MEMORY (not (eqb (length m) WORDS)) ∷ row NO-PORT false ∷ row TOO-MANY (ltb MOST-INSPECTIONS n) ∷ []

-- a list of 4096 places is never too short for a sweep that these rows let pass
front_code : (u : Mux) (m : List ℕ) (n : ℕ) (xs : List ℕ) → MOST-INSPECTIONS ≤ length xs → refusal (of_sweep u m n xs) ≡ first_of (front u m n)
unfolding refusal table_of rows_of call_rows asked
front_code u m n xs h =
    first_idle (front u m n) (row SHORT-LIST (ltb (length xs) n))
    (λ e. le-ltb (length xs) n (le_trans (ltb-false MOST-INSPECTIONS n ((first_zero (front u m n) refl).0 e).1.1.1.0) h))

take_zeros : (k n : ℕ) → k ≤ n → take {A = ℕ} k (replicate n 0) ≡ replicate k 0
take_zeros zero n h = refl
take_zeros (suc k) zero h = absurd (not-suc-le-zero h)
take_zeros (suc k) (suc n) h = ap (λ (zs : List ℕ). 0 ∷ zs) (take_zeros k n (le_of_suc-le-suc h))

-- what a sweep leaves beside its list
abbrev pub apart : Outcome → Outcome
apart o = record { reply = o.reply; world = o.world; list = [] }

module _ (u : Mux) (m : List ℕ) (n : ℕ) (xs ys : List ℕ) (h : MOST-INSPECTIONS ≤ length xs) (k : MOST-INSPECTIONS ≤ length ys) where
  same_code : refusal (of_sweep u m n xs) ≡ refusal (of_sweep u m n ys)
  same_code = front_code u m n xs h ∙ sym (front_code u m n ys k)

  -- two lists of 4096 places or more
  pub same_sweep : apart (sweep u m n xs) ≡ apart (sweep u m n ys)
  same_sweep = go (eqb (refusal (of_sweep u m n xs)) 0) refl
    where
      go : (t : Bool) → eqb (refusal (of_sweep u m n xs)) 0 ≡ t → apart (sweep u m n xs) ≡ apart (sweep u m n ys)
      go true e =
          let z = eqb-true (refusal (of_sweep u m n xs)) 0 e in
          ap apart (sweep_accepted u m n xs z) ∙ ap (λ (g : Going). apart (arrived_at g)) (same_from n (set_out u m []) xs ys) ∙ sym (ap apart (sweep_accepted u m n ys (sym same_code ∙ z)))
      go false e =
          let z = eqb-false (refusal (of_sweep u m n xs)) 0 e in
          ap apart (sweep_refused u m n xs z) ∙ ap (λ (c : ℕ). apart (outcome (refused c u) m [])) same_code ∙ sym (ap apart (sweep_refused u m n ys (λ q. z (same_code ∙ q))))

-- a list of zeros, and as much of 4096 zeros as there is: one length, or both 4096 or more
pub same_zeros : (u : Mux) (m : List ℕ) (n k : ℕ) → apart (sweep u m n (take k (replicate 4096 0))) ≡ apart (sweep u m n (replicate k 0))
same_zeros u m n k = go (leb k 4096) refl
  where
    go : (t : Bool) → leb k 4096 ≡ t → apart (sweep u m n (take k (replicate 4096 0))) ≡ apart (sweep u m n (replicate k 0))
    go true e = ap (λ (xs : List ℕ). apart (sweep u m n xs)) (take_zeros k 4096 (leb-true k 4096 e))
    go false e =
        let l = leb-false k 4096 e in
        let all : take {A = ℕ} k (replicate 4096 0) ≡ replicate 4096 0 = take_all {A = ℕ} k (replicate 4096 0) (omega (arith, l, length-replicate {A = ℕ} 4096 0)) in
        same_sweep u m n (take k (replicate 4096 0)) (replicate k 0) (omega (arith, ap length all, length-replicate {A = ℕ} 4096 0)) (omega (arith, l, length-replicate {A = ℕ} k 0))

-- ---- an event

what_same : (w : World) (s : Setting) (a : What) (k : ℕ) → apart (step_of w (take k (replicate 4096 0)) s a) ≡ apart (step_of w (replicate k 0) s a)
unfolding step_of
what_same w s Setup k = refl
what_same w s (Do a) k = refl
what_same w s (Sweep n) k = same_zeros w.mux w.memory n k

-- a call with 4096 places of zeros, and with the list that was recorded
pub call_same : (w : World) (c : Call) (k : ℕ) → apart (step w (take k (replicate 4096 0)) c) ≡ apart (step w (replicate k 0) c)
call_same w c k = what_same w c.setting c.what k

pub played_by : (w : World) (e : Event) → (plays w (replicate 4096 0) e).world ≡ played w e
played_by w e = go (eqb (event_code e) 0) refl (eqb e.tag 6) refl
  where
    go : (t : Bool) → eqb (event_code e) 0 ≡ t → (s : Bool) → eqb e.tag 6 ≡ s → (plays w (replicate 4096 0) e).world ≡ played w e
    go false t s q = ap (λ (o : Outcome). o.world) (plays_bad w (replicate 4096 0) e (eqb-false (event_code e) 0 t)) ∙ sym (played_bad w e (eqb-false (event_code e) 0 t))
    go true t true q =
        let c = eqb-true (event_code e) 0 t in
        let six = eqb-true e.tag 6 q in
        ap (λ (o : Outcome). o.world) (plays_write w (replicate 4096 0) e c six) ∙ sym (played_write w e c six)
    go true t false q =
        let c = eqb-true (event_code e) 0 t in
        let other = eqb-false e.tag 6 q in
        ap (λ (o : Outcome). o.world) (plays_call w (replicate 4096 0) e c other) ∙ ap (λ (o : Outcome). o.world) (call_same w (call_of e) (room e)) ∙ sym (played_call w e c other)
