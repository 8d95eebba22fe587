-- A school day played again, byte by byte of its recording.
--   Day, day_of, KeptDay   the day so far, and with the memory beside it
--   dawn, with_stream, with_unit   the day at its start, and with another part
--   told, after, happened   one event played: its answer, the unit, the memory, and where the lines began
--   taken, on          one byte of the recording, and many
--   same               a read that brings nothing
-- Not here: the recording in parts, in stream; one event, in replay; that a day is the replay of its recording, in laws/Day.
-- Assumes nothing.
use Rattle.std.specs.Prelude.{List, ℕ, replicate}
use mathlib.Core.List.{foldl}
use Rattle.ground.specs.Choose.{pick}
use Rattle.unit.specs.declared.mux.Mux.{Mux}
use Rattle.unit.specs.Reply.{Reply}
use Rattle.unit.specs.Record.{no_mux}
use Rattle.unit.specs.Reply.{Reply, World, world, Looked}
use Rattle.recording.specs.declared.event.Event.{Event}
use Rattle.recording.specs.Pass.{Kept, kept}
use Rattle.stream.specs.declared.Stream.{Stream}
use Rattle.stream.specs.Stream.{begun, took, ready, event}
use Rattle.replay.specs.Replay.{plays}
use Rattle.day.specs.Names.{View, viewed, begins}

-- the day so far: the recording as far as it is read, the unit, and where the lines began
pub record Day : Type 0 where
  pub stream : Stream
  pub unit : Mux
  pub begin : List ℕ

abbrev pub day_of : Stream → Mux → List ℕ → Day
day_of s u begin = record { stream = s; unit = u; begin = begin }

-- with the memory beside it
abbrev pub KeptDay : Type 0
KeptDay = Kept Day

-- nothing is read yet: a record of zeros
abbrev pub dawn : Day
dawn = record { stream = begun; unit = no_mux; begin = replicate 128 0 }

abbrev pub with_stream : Day → Stream → Day
with_stream d s = record { stream = s; unit = d.unit; begin = d.begin }

abbrev pub with_unit : Day → Mux → List ℕ → Day
with_unit d u begin = record { stream = d.stream; unit = u; begin = begin }

-- one event played with a list of 4096 zeros: what it answers, the record and the memory
abbrev pub looking : Reply → World → Looked
looking r w = record { reply = r; world = w }

unfoldable pub told : World → Event → Looked
told w e = looking (plays w (replicate 4096 0) e).reply (plays w (replicate 4096 0) e).world

-- the day after an event, by its tag, what it answered and left, and what the control blocks held before and after it
abbrev pub after : Day → ℕ → ℕ → Mux → View → View → Day
after d tag code u was is = with_unit d u (begins tag code d.begin was.ibp is.ibp)

abbrev pub left : Kept Day → ℕ → Looked → Kept Day
left k tag l =
    kept
    (after k.state tag l.reply.code l.world.mux (viewed k.state.unit.setting k.lent) (viewed l.world.mux.setting l.world.memory))
    l.world.memory

-- one event: the unit, where the lines began, and the memory
unfoldable pub happened : Kept Day → Event → Kept Day
happened k e = left k e.tag (told (world k.state.unit k.lent) e)

-- one byte: where it makes a field whole, its event happens
abbrev pub read : Kept Day → Stream → Kept Day
read k s = kept (with_stream k.state s) k.lent

unfoldable pub taken : Kept Day → ℕ → Kept Day
taken k b =
    let s = took k.state.stream b in
    pick (ready s) (happened (read k s) (event s)) (read k s)

abbrev pub on : Kept Day → List ℕ → Kept Day
on k text = foldl taken k text

abbrev pub same : Kept Day → Kept Day
same k = k
