-- A replay is the run over the calls and host writes that its events come to.
--   played_run      one event after the other, and the run
--   replay_run      a replay of a memory of 32768 words, from a record of zeros
--   replay_seven    any other memory: 7, and nothing happens
--   played_refused  a refused call, a setup too, changes nothing; nor does an event that the writer would refuse (played_bad of laws/Plays)
--   answer_is       what an event answers is what its call answers
-- Not here: one event, in laws/Plays; demands 1 to 3 of what a list of calls does, in calls, waiting and fifo, which a replay has by replay_run.
-- Assumes nothing.
use Rattle.std.specs.Prelude.{◌≡◌, refl, Bool, true, false, List, [], ◌∷◌, ℕ, eqb, length, replicate}
use Rattle.std.proofs.Common.{sym, ◌∙◌, ap, arith, eqb-true}
use borrow.Author.Tests.{eqb-false}
use Rattle.ground.specs.Machine.{run}
use Rattle.ground.specs.laws.Rows.{pick_true, pick-false}
use Rattle.unit.specs.Record.{no_mux}
use Rattle.unit.specs.Reply.{World, world, Outcome}
use Rattle.unit.specs.Refusals.{WORDS, BAD-MEMORY}
use Rattle.calls.specs.Calls.{step}
use Rattle.calls.specs.Events as Calls
use Rattle.calls.proofs.laws.Refusals.{step_refuses}
use Rattle.recording.specs.declared.event.Event.{Event}
use Rattle.recording.specs.Event.{event_code}
use Rattle.recording.specs.Pass.{Kept, kept}
use Rattle.replay.specs.declared.play.Played.{Played}
use Rattle.replay.specs.Replay.{room, happening, played, came, plays, begun, standing, replayed}
use Rattle.replay.specs.Calls.{call_of}
use Rattle.replay.specs.laws.Plays.{plays_call, played_bad, played_good, played_call, stopped, goes_on, begins, begins_not}
use Rattle.replay.specs.laws.Lists.{call_same}

-- one event after the other is the run
pub played_run : (es : List Event) (w : World) → run played w es ≡ Calls.run w (came w es)
unfolding run came
played_run [] w = refl
played_run (e ∷ es) w = go (eqb (event_code e) 0) refl (played_run es (played w e))
  where
    go : (t : Bool) → eqb (event_code e) 0 ≡ t → run played (played w e) es ≡ Calls.run (played w e) (came (played w e) es) → run played w (e ∷ es) ≡ Calls.run w (came w (e ∷ es))
    go true t more =
        more ∙ ap (λ (v : World). Calls.run v (came (played w e) es)) (played_good w e (eqb-true (event_code e) 0 t))
        ∙ sym (ap (Calls.run w) (pick_true (eqb (event_code e) 0) (happening w e ∷ came (played w e) es) (came (played w e) es) t))
    go false t more =
        more ∙ ap (λ (v : World). Calls.run v (came (played w e) es)) (played_bad w e (eqb-false (event_code e) 0 t))
        ∙ sym (ap (Calls.run w) (pick-false (eqb (event_code e) 0) (happening w e ∷ came (played w e) es) (came (played w e) es) t))

-- a replay that is not refused
pub replays : (es : List Event) (w : World) → run replayed (standing w) es ≡ standing (run played w es)
unfolding run
replays [] w = refl
replays (e ∷ es) w = ap (λ (k : Kept Played). run replayed k es) (goes_on (standing w) e refl) ∙ replays es (played w e)

-- and one that is
refused : (es : List Event) (k : Kept Played) → (k.state.code ≡ 0 → ⊥) → run replayed k es ≡ k
unfolding run
refused [] k c = refl
refused (e ∷ es) k c = ap (λ (j : Kept Played). run replayed j es) (stopped k e c) ∙ refused es k c

-- from a record of zeros and the memory as lent: what the calls give one by one
pub replay_run : (m : List ℕ) (es : List Event) → length m ≡ WORDS → run replayed (kept (begun (length m)) m) es ≡ standing (Calls.run (world no_mux m) (came (world no_mux m) es))
replay_run m es h = ap (λ (p : Played). run replayed (kept p m) es) (begins (length m) h) ∙ replays es (world no_mux m) ∙ ap standing (played_run es (world no_mux m))

-- a memory of another length gives 7 first
pub replay_seven : (m : List ℕ) (es : List Event) → (length m ≡ WORDS → ⊥) → run replayed (kept (begun (length m)) m) es ≡ kept (record { code = BAD-MEMORY; mux = no_mux }) m
replay_seven m es h = ap (λ (p : Played). run replayed (kept p m) es) (begins_not (length m) h) ∙ refused es (kept (record { code = BAD-MEMORY; mux = no_mux }) m) (λ z. absurd (omega (arith, z)))

-- ---- what changes nothing, and what is answered

module _ (w : World) (e : Event) (good : event_code e ≡ 0) (call : e.tag ≡ 6 → ⊥) where
  abbrev made : Outcome
  made = step w (replicate (room e) 0) (call_of e)

  -- a refused call, a setup too, leaves the record and the memory as they were
  pub played_refused : (made.reply.code ≡ 0 → ⊥) → played w e ≡ w
  played_refused c =
      let r = step_refuses w (replicate (room e) 0) (call_of e) in
      played_call w e good call ∙ ap (λ (o : Outcome). o.world) (r.keeps (λ z. c (r.number ∙ z)))

  -- played with 4096 places of zeros, an event answers what its call answers with its recorded list
  pub answer_is : (plays w (replicate 4096 0) e).reply ≡ made.reply
  answer_is = ap (λ (o : Outcome). o.reply) (plays_call w (replicate 4096 0) e good call) ∙ ap (λ (o : Outcome). o.reply) (call_same w (call_of e) (room e))
