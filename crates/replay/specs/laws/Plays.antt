-- One event with a list lent to it, case by case.
--   plays_bad, plays_write, plays_call   an event that the writer would refuse, a host write, a call
--   played_bad, played_good, played_write, played_call, happens_write, happens_call   the same of the record and the memory
--   stopped, goes_on                     one event of a replay that was refused, and of one that was not
--   begins, begins_not                   a memory of the right length, and of another
--   room_sweep, room_none                a sweep's list, and that of any other event
--   called_back                          a call on the first places of the list, as the code counts them
-- Not here: what a replay comes to, in laws/Replay.
-- Assumes nothing.
use Rattle.std.specs.Prelude.{◌≡◌, List, ◌++◌, ℕ, min, eqb, length, take, drop, replicate}
use Rattle.std.proofs.Common.{◌∙◌, ap, eq-eqb, ne_eqb}
use Rattle.ground.specs.Choose.{pick}
use Rattle.ground.specs.laws.Rows.{pick_true, pick-false}
use Rattle.ground.specs.laws.Arrays.{take_most, drop_most}
use Rattle.unit.specs.Reply.{Replied, World, world, Outcome, outcome}
use Rattle.unit.specs.Record.{no_mux}
use Rattle.unit.specs.Refusals.{WORDS, BAD-MEMORY}
use Rattle.calls.specs.Calls.{step}
use Rattle.calls.specs.Events as Calls
use Rattle.recording.specs.declared.event.Event.{Event}
use Rattle.recording.specs.Event.{event_code}
use Rattle.recording.specs.Pass.{Kept}
use Rattle.replay.specs.declared.play.Played.{Played}
use Rattle.replay.specs.Replay.{room, put, happening, played, still, wrote, called, plays, begun, standing, replayed}
use Rattle.replay.specs.Calls.{call_of}

module _ (w : World) (xs : List ℕ) (e : Event) where
  abbrev good : Outcome
  good = pick (eqb e.tag 6) (wrote w xs e) (called w xs e)

  pub plays_bad : (event_code e ≡ 0 → ⊥) → plays w xs e ≡ still w xs
  unfolding plays
  plays_bad c = pick-false (eqb (event_code e) 0) good (still w xs) (ne_eqb (event_code e) 0 c)

  plays_good : event_code e ≡ 0 → plays w xs e ≡ good
  unfolding plays
  plays_good c = pick_true (eqb (event_code e) 0) good (still w xs) (eq-eqb (event_code e) 0 c)

  pub plays_write : event_code e ≡ 0 → e.tag ≡ 6 → plays w xs e ≡ wrote w xs e
  plays_write c t = plays_good c ∙ pick_true (eqb e.tag 6) (wrote w xs e) (called w xs e) (eq-eqb e.tag 6 t)

  pub plays_call : event_code e ≡ 0 → (e.tag ≡ 6 → ⊥) → plays w xs e ≡ called w xs e
  plays_call c t = plays_good c ∙ pick-false (eqb e.tag 6) (wrote w xs e) (called w xs e) (ne_eqb e.tag 6 t)

  -- the call is made on as many places as there are; what it leaves and what was not lent are the list
  pub called_back : (k : ℕ) (r : Replied) (m ys : List ℕ) → k ≡ min (room e) (length xs) → outcome r m ys ≡ step w (take k xs) (call_of e) → outcome r m (ys ++ drop k xs) ≡ called w xs e
  called_back k r m ys p s =
      let taken : take k xs ≡ take (room e) xs = ap (λ (n : ℕ). take n xs) p ∙ take_most (room e) xs in
      let left : drop k xs ≡ drop (room e) xs = ap (λ (n : ℕ). drop n xs) p ∙ drop_most (room e) xs in
      ap (λ (zs : List ℕ). outcome r m (ys ++ zs)) left
      ∙ ap (λ (o : Outcome). record { reply = o.reply; world = o.world; list = o.list ++ drop (room e) xs }) (s ∙ ap (λ (zs : List ℕ). step w zs (call_of e)) taken)

-- the same of the record and the memory alone
module _ (w : World) (e : Event) where
  pub played_bad : (event_code e ≡ 0 → ⊥) → played w e ≡ w
  unfolding played
  played_bad c = pick-false (eqb (event_code e) 0) (Calls.happens w (happening w e)) w (ne_eqb (event_code e) 0 c)

  pub played_good : event_code e ≡ 0 → played w e ≡ Calls.happens w (happening w e)
  unfolding played
  played_good c = pick_true (eqb (event_code e) 0) (Calls.happens w (happening w e)) w (eq-eqb (event_code e) 0 c)

  abbrev written : Calls.Event
  written = Calls.host_writes (put w.memory e.first e.second)

  abbrev made : Calls.Event
  made = Calls.calls (call_of e) (replicate (room e) 0)

  pub happens_write : e.tag ≡ 6 → happening w e ≡ written
  unfolding happening
  happens_write t = pick_true (eqb e.tag 6) written made (eq-eqb e.tag 6 t)

  pub happens_call : (e.tag ≡ 6 → ⊥) → happening w e ≡ made
  unfolding happening
  happens_call t = pick-false (eqb e.tag 6) written made (ne_eqb e.tag 6 t)

  pub played_write : event_code e ≡ 0 → e.tag ≡ 6 → played w e ≡ world w.mux (put w.memory e.first e.second)
  unfolding Calls.happens
  played_write c t = played_good c ∙ ap (Calls.happens w) (happens_write t)

  pub played_call : event_code e ≡ 0 → (e.tag ≡ 6 → ⊥) → played w e ≡ (step w (replicate (room e) 0) (call_of e)).world
  unfolding Calls.happens
  played_call c t = played_good c ∙ ap (Calls.happens w) (happens_call t)

module _ (k : Kept Played) (e : Event) where
  pub stopped : (k.state.code ≡ 0 → ⊥) → replayed k e ≡ k
  unfolding replayed
  stopped c = pick-false (eqb k.state.code 0) (standing (played (world k.state.mux k.lent) e)) k (ne_eqb k.state.code 0 c)

  pub goes_on : k.state.code ≡ 0 → replayed k e ≡ standing (played (world k.state.mux k.lent) e)
  unfolding replayed
  goes_on c = pick_true (eqb k.state.code 0) (standing (played (world k.state.mux k.lent) e)) k (eq-eqb k.state.code 0 c)

abbrev begun_at : ℕ → Played
begun_at c = record { code = c; mux = no_mux }

pub begins : (n : ℕ) → n ≡ WORDS → begun n ≡ begun_at 0
unfolding begun
begins n h = pick_true (eqb n WORDS) (begun_at 0) (begun_at BAD-MEMORY) (eq-eqb n WORDS h)

pub begins_not : (n : ℕ) → (n ≡ WORDS → ⊥) → begun n ≡ begun_at BAD-MEMORY
unfolding begun
begins_not n h = pick-false (eqb n WORDS) (begun_at 0) (begun_at BAD-MEMORY) (ne_eqb n WORDS h)

pub room_sweep : (e : Event) → e.tag ≡ 5 → room e ≡ e.second
unfolding room
room_sweep e t = pick_true (eqb e.tag 5) e.second 0 (eq-eqb e.tag 5 t)

pub room_none : (e : Event) → (e.tag ≡ 5 → ⊥) → room e ≡ 0
unfolding room
room_none e t = pick-false (eqb e.tag 5) e.second 0 (ne_eqb e.tag 5 t)
