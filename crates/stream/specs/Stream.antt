-- A recording read byte by byte, in whatever parts it comes (document 02, K8).
--   LONGEST                how many bytes the longest field has
--   begun                  before the first byte
--   counted, judged        one field more, if it is whole; what is known once a field has so many bytes
--   opened, longer, grown, took   the first byte of a field; one more; one byte of the recording
--   ready, event           whether this byte made a field whole, and its event
--   news, gives            the event that the last byte gave, or that a byte gives, if it does
--   ended                  the answer when no byte follows
-- Not here: one field, and the reading of the whole, in recording; that the two readings are one, in laws/Whole.
-- Assumes nothing.
use Rattle.std.specs.Prelude.{ℕ, ◌+◌, ◌%◌, ◌^◌, Bool, ◌&&◌, List, [], ◌∷◌, take, replicate, ◌==◌, nat_lt, slice_set}
use Rattle.ground.specs.Choose.{pick}
use Rattle.recording.specs.declared.event.Event.{Event}
use Rattle.recording.specs.declared.reading.Done.{Done}
use Rattle.recording.specs.Scan.{done}
use Rattle.recording.specs.Event.{CUT-SHORT}
use Rattle.recording.specs.Field.{event_in, field_code}
use Rattle.stream.specs.declared.Stream.{Stream}

-- setup's: tag and length, 13 bytes of numbers, and the set
abbrev pub LONGEST : ℕ
LONGEST = 144

-- no field yet, at offset 0
abbrev pub begun : Stream
begun = record { field = replicate LONGEST 0; fill = 0; code = 0; at = 0; count = 0 }

-- one field more, where nothing is at fault in this one
unfoldable pub counted : ℕ → ℕ → ℕ
counted k code = pick (code == 0) ((k + 1) % 2 ^ 64) k

-- so many bytes of a field whose tag stands at an offset, after so many fields: what is at fault in them so far
abbrev pub judged : List ℕ → ℕ → ℕ → ℕ → Stream
judged bytes n at k = record { field = bytes; fill = n; code = field_code (take n bytes); at = at; count = counted k (field_code (take n bytes)) }

-- the first byte of a field, right after the last one
abbrev pub opened : Stream → ℕ → Stream
opened s b = judged (slice_set s.field 0 b) 1 ((s.at + s.fill) % 2 ^ 64) s.count

-- one byte more of a field, whose tag stays where it is
abbrev pub longer : Stream → ℕ → Stream
longer s b = judged (slice_set s.field s.fill b) (s.fill + 1) s.at s.count

-- if it has a place, as in every field
unfoldable pub grown : Stream → ℕ → Stream
grown s b = pick (nat_lt s.fill LONGEST) (longer s b) s

-- one byte of the recording: a field begins where the last is whole; one that is not goes on; and after a fault nothing changes
unfoldable pub took : Stream → ℕ → Stream
took s b = pick (s.code == 0) (opened s b) (pick (s.code == CUT-SHORT) (grown s b) s)

-- a field is whole
abbrev pub ready : Stream → Bool
ready s = s.code == 0 && nat_lt 0 s.fill

-- its event; what longer fields before it left behind its bytes is not read
abbrev pub event : Stream → Event
event s = event_in s.field

-- the event that the last byte gave, where it made a field whole
unfoldable pub news : Stream → List Event
news s = pick (ready s) (event s ∷ []) []

-- the event that a byte gives
abbrev pub gives : Stream → ℕ → List Event
gives s b = news (took s b)

-- no byte follows: so many fields, all whole; or what is at fault, 15 where a field is not whole, at the offset of its tag
unfoldable pub ended : Stream → Done
ended s = pick (s.code == 0) (done 0 0 s.count) (done s.code s.at 0)
