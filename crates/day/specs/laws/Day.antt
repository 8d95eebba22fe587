-- A day is the replay of its recording (document 02, K8): whatever bytes were read, in whatever parts.
--   world_of       the unit and the memory of a day
--   byte_stream, byte_world   one byte
--   day_stream    the recording is read as stream reads it, so the last line is the reader's answer
--   day_world     the unit and the memory are what the events that were read leave, one after the other
--   day_replay    they are those of the fields before the first that is at fault, and what the calls and host writes give one by one
-- Not here: that reading in parts is reading the whole, in stream, laws/Whole.
-- Assumes nothing.
use Rattle.std.specs.Prelude.{◌≡◌, refl, Bool, true, false, List, [], ◌∷◌, ℕ, ◌<◌, ◌^◌, length}
use Rattle.std.proofs.Common.{sym, ◌∙◌, ap}
use mathlib.Core.List.{foldl}
use Rattle.ground.specs.Choose.{pick}
use Rattle.ground.specs.Machine.{run, gather}
use Rattle.ground.specs.laws.Machine.{run-append}
use Rattle.ground.specs.laws.Rows.{pick_true, pick-false}
use Rattle.unit.specs.Record.{no_mux}
use Rattle.unit.specs.Reply.{World, world}
use Rattle.calls.specs.Events as Calls
use Rattle.recording.specs.declared.event.Event.{Event}
use Rattle.recording.specs.Scan as whole
use Rattle.recording.specs.Scan.{scanned, heard}
use Rattle.recording.specs.Pass.{Kept, kept}
use Rattle.stream.specs.declared.Stream.{Stream}
use Rattle.stream.specs.Stream.{begun, took, ready, event, news, gives}
use Rattle.stream.specs.laws.Whole.{given_heard}
use Rattle.replay.specs.Replay.{played, came}
use Rattle.replay.specs.laws.Lists.{played_by}
use Rattle.replay.specs.laws.Replay.{played_run}
use Rattle.day.specs.Day.{Day, dawn, told, happened, read, taken}

-- the unit and the memory of a day
abbrev pub world_of : Kept Day → World
world_of k = world k.state.unit k.lent

-- an event reads no byte
happened_stream : (k : Kept Day) (e : Event) → (happened k e).state.stream ≡ k.state.stream
unfolding happened
happened_stream k e = refl

-- and leaves what playing it leaves
happened_world : (k : Kept Day) (e : Event) → world_of (happened k e) ≡ played (world_of k) e
unfolding happened told
happened_world k e = played_by (world_of k) e

module _ (k : Kept Day) (b : ℕ) where
  abbrev next : Stream
  next = took k.state.stream b

  abbrev parts : Kept Day
  parts = pick (ready next) (happened (read k next) (event next)) (read k next)

  taken_is : taken k b ≡ parts
  unfolding taken
  taken_is = refl

  pub byte_stream : (taken k b).state.stream ≡ next
  byte_stream = ap (λ (j : Kept Day). j.state.stream) taken_is ∙ go (ready next) refl
    where
      go : (t : Bool) → ready next ≡ t → parts.state.stream ≡ next
      go true t = ap (λ (j : Kept Day). j.state.stream) (pick_true (ready next) (happened (read k next) (event next)) (read k next) t) ∙ happened_stream (read k next) (event next)
      go false t = ap (λ (j : Kept Day). j.state.stream) (pick-false (ready next) (happened (read k next) (event next)) (read k next) t)

  pub byte_world : world_of (taken k b) ≡ run played (world_of k) (gives k.state.stream b)
  unfolding news run
  byte_world = ap world_of taken_is ∙ go (ready next) refl
    where
      go : (t : Bool) → ready next ≡ t → world_of parts ≡ run played (world_of k) (news next)
      go true t =
          ap world_of (pick_true (ready next) (happened (read k next) (event next)) (read k next) t) ∙ happened_world (read k next) (event next)
          ∙ sym (ap (λ (es : List Event). run played (world_of k) es) (pick_true (ready next) (event next ∷ []) [] t))
      go false t =
          ap world_of (pick-false (ready next) (happened (read k next) (event next)) (read k next) t)
          ∙ sym (ap (λ (es : List Event). run played (world_of k) es) (pick-false (ready next) (event next ∷ []) [] t))

-- the recording is read as stream reads it
stream_on : (text : List ℕ) (k : Kept Day) → (foldl taken k text).state.stream ≡ run took k.state.stream text
unfolding run
stream_on [] k = refl
stream_on (b ∷ text) k = stream_on text (taken k b) ∙ ap (λ (s : Stream). run took s text) (byte_stream k b)

-- and its events are played
world_on : (text : List ℕ) (k : Kept Day) → world_of (foldl taken k text) ≡ run played (world_of k) (gather took gives k.state.stream text)
unfolding gather run
world_on [] k = refl
world_on (b ∷ text) k =
    world_on text (taken k b)
    ∙ ap (λ (s : Stream). run played (world_of (taken k b)) (gather took gives s text)) (byte_stream k b)
    ∙ ap (λ (w : World). run played w (gather took gives (took k.state.stream b) text)) (byte_world k b)
    ∙ sym (run-append played (world_of k) (gives k.state.stream b) (gather took gives (took k.state.stream b) text))

module _ (m : List ℕ) (text : List ℕ) where
  abbrev day : Kept Day
  day = foldl taken (kept dawn m) text

  -- so the last line, which is `ended` of this, is the reader's answer (ended_checked of stream)
  pub day_stream : day.state.stream ≡ run took begun text
  day_stream = stream_on text (kept dawn m)

  pub day_world : world_of day ≡ run played (world no_mux m) (gather took gives begun text)
  day_world = world_on text (kept dawn m)

  -- the events of the fields before the first that is at fault
  abbrev pub events : List Event
  events = heard (scanned (length text) text whole.begun).count text 0

  pub day_replay : length text < 2 ^ 64 → world_of day ≡ Calls.run (world no_mux m) (came (world no_mux m) events)
  day_replay bound = day_world ∙ ap (λ (es : List Event). run played (world no_mux m) es) (given_heard text bound) ∙ played_run events (world no_mux m)
