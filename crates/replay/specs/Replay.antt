-- Playing a recording (document 02, K8).
--   room, put          how many places of a list an event has; a word written into the memory
--   happening          what an event is where it happens: a call with its list of zeros, or a host write
--   played             the record and the memory after one event
--   came               the calls and host writes that a list of events comes to
--   plays              one event with a list lent to it: its answer, and everything that it leaves
--   played_of          how a replay stands, by a record or a refusal
--   begun, replayed    a replay at its start, and one event of it
-- Not here: that a replay is `run` over what its events come to, in laws/Replay.
-- Assumes nothing.
use Rattle.std.specs.Prelude.{Result, Ok, Err, List, [], ◌∷◌, ◌++◌, ℕ, ◌%◌, eqb, set, take, drop, replicate}
use Rattle.ground.specs.Choose.{pick}
use Rattle.unit.specs.declared.mux.Mux.{Mux}
use Rattle.unit.specs.declared.refusal.Refusal.{Refusal}
use Rattle.unit.specs.Record.{no_mux}
use Rattle.unit.specs.Reply.{nothing, answered, World, world, Outcome, outcome}
use Rattle.unit.specs.Refusals.{WORDS, BAD-MEMORY, number_of}
use Rattle.calls.specs.Calls.{step}
use Rattle.calls.specs.Events as Calls
use Rattle.recording.specs.declared.event.Event.{Event}
use Rattle.recording.specs.Event.{event_code}
use Rattle.recording.specs.Pass.{Kept, kept}
use Rattle.replay.specs.declared.play.Played.{Played}
use Rattle.replay.specs.Calls.{call_of}

-- how many places the list of an event has: a sweep's recorded length
unfoldable pub room : Event → ℕ
room e = pick (eqb e.tag 5) e.second 0

-- a word written into the memory
abbrev pub put : List ℕ → ℕ → ℕ → List ℕ
put m address word = set m address (word % 65536)

-- what an event is where it happens: tag 6 a host write of one word, any other a call with a list of zeros
unfoldable pub happening : World → Event → Calls.Event
happening w e = pick (eqb e.tag 6) (Calls.host_writes (put w.memory e.first e.second)) (Calls.calls (call_of e) (replicate (room e) 0))

-- the record and the memory after one event; one that the writer would refuse changes nothing
unfoldable pub played : World → Event → World
played w e = pick (eqb (event_code e) 0) (Calls.happens w (happening w e)) w

-- the calls and host writes that a list of events comes to, those that the writer would refuse passed over
unfoldable pub came : World → List Event → List Calls.Event
came w [] = []
came w (e ∷ es) = pick (eqb (event_code e) 0) (happening w e ∷ came (played w e) es) (came (played w e) es)

-- ---- one event, with a list lent to it

-- nothing is answered, and nothing changed
abbrev pub still : World → List ℕ → Outcome
still w xs = outcome (answered nothing w.mux) w.memory xs

-- a host write answers nothing
abbrev pub wrote : World → List ℕ → Event → Outcome
wrote w xs e = outcome (answered nothing w.mux) (put w.memory e.first e.second) xs

-- a call, with the first places of the list; the others stay
abbrev pub called : World → List ℕ → Event → Outcome
called w xs e =
    let o = step w (take (room e) xs) (call_of e) in
    record { reply = o.reply; world = o.world; list = o.list ++ drop (room e) xs }

unfoldable pub plays : World → List ℕ → Event → Outcome
plays w xs e = pick (eqb (event_code e) 0) (pick (eqb e.tag 6) (wrote w xs e) (called w xs e)) (still w xs)

-- ---- a replay

-- how a replay stands, the refusal number or 0 with the record: a record, or a refusal, which has a record of zeros
abbrev pub played_of : Result Mux Refusal → Played
played_of (Ok u) = record { code = 0; mux = u }
played_of (Err r) = record { code = number_of r; mux = no_mux }

-- a record of zeros; 7 where the memory has another length
unfoldable pub begun : ℕ → Played
begun words = pick (eqb words WORDS) (record { code = 0; mux = no_mux }) (record { code = BAD-MEMORY; mux = no_mux })

-- what a replay keeps, of the world that its events left
abbrev pub standing : World → Kept Played
standing w = kept (record { code = 0; mux = w.mux }) w.memory

-- one event; after a refusal nothing happens
unfoldable pub replayed : Kept Played → Event → Kept Played
replayed k e = pick (eqb k.state.code 0) (standing (played (world k.state.mux k.lent) e)) k
