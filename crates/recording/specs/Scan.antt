-- Bytes read field by field into a lent list of events (document 02, K8).
--   done, begun              an answer: refusal number or 0, offset, and how much was written
--   done_of, Answers         the same as a result has them, and that one has
--   Comes, one_of            how far the code's reading on comes, and its event at an offset
--   going, scan_one, scanned  reading on, field by field, up to the first at fault
--   checked                  what reading answers: the first fault anywhere; only then 18
--   Checks                   the same with its bound
--   One, one_at, heard        the event of the field at an offset, and the offset after it; the events of so many fields
--   Reading, reading, read   the call: what it answers, and every place of the list
-- Not here: one field, in Field; what follows, in laws/.
-- Assumes nothing.
use Rattle.std.specs.Prelude.{◌≡◌, ℕ, Option, None, Some, Result, Ok, Err, zero, suc, ◌+◌, ◌≤◌, Bool, ◌&&◌, List, [], ◌∷◌, ◌++◌, length, drop, ◌==◌, nat_lt}
use Rattle.ground.specs.Choose.{pick}
use Rattle.recording.specs.declared.fault.Refused.{Refused}
use Rattle.recording.specs.declared.event.Event.{Event}
use Rattle.recording.specs.declared.reading.Done.{Done}
use Rattle.recording.specs.declared.reading.Reach.{Reach}
use Rattle.recording.specs.declared.reading.One as Found
use Rattle.recording.specs.Fault.{number_of}
use Rattle.recording.specs.Layout.{field_length}
use Rattle.recording.specs.Event.{NO-ROOM, no_event}
use Rattle.recording.specs.Field.{tag_in, event_in, field_code}

-- an event, and the offset after its field
pub record One : Type 0 where
  pub event : Event
  pub next : ℕ

abbrev pub done : ℕ → ℕ → ℕ → Done
done c at n = record { code = c; at = at; count = n }

abbrev pub begun : Done
begun = done 0 0 0

-- a result, by its numbers: a refusal counts nothing
abbrev pub done_of : Result ℕ Refused → Done
done_of (Ok n) = done 0 0 n
done_of (Err r) = done (number_of r.fault) r.at 0

-- such numbers as some result has
pub record Answers (d : Done) : Type 0 where
  pub result : Result ℕ Refused
  pub is : done_of result ≡ d

-- how far the code's reading on comes: so many fields and no fault, or a fault at an offset
abbrev pub Comes : Result Reach Refused → Done → Type 0
Comes (Ok r) d = d ≡ done 0 r.at r.count
Comes (Err r) d = (d.code ≡ number_of r.fault) × (d.at ≡ r.at)

-- and its event at an offset: none, where there is no good field
abbrev pub one_of : ℕ → Option Found.One → One
one_of at None = record { event = no_event; next = at }
one_of at (Some o) = record { event = o.event; next = o.next }

-- ---- field by field

-- nothing is at fault, and bytes are left
abbrev pub going : List ℕ → Done → Bool
going bytes d = d.code == 0 && nat_lt d.at (length bytes)

-- one field more: past it, or at fault where its tag stands
unfoldable pub scan_one : List ℕ → Done → Done
scan_one bytes d =
    pick (field_code (drop d.at bytes) == 0)
    (done 0 (d.at + field_length (tag_in (drop d.at bytes))) (d.count + 1))
    (done (field_code (drop d.at bytes)) d.at d.count)

-- at most so many fields more
unfoldable pub scanned : ℕ → List ℕ → Done → Done
scanned zero bytes d = d
scanned (suc n) bytes d = pick (going bytes d) (scanned n bytes (scan_one bytes d)) d

-- ---- the call

-- a fault in any field comes first; then 18, where bytes are left once the list is full; else so many events
unfoldable pub checked : List ℕ → ℕ → Done
checked bytes room =
    pick ((scanned (length bytes) bytes begun).code == 0)
    (pick (nat_lt (scanned room bytes begun).at (length bytes))
    (done NO-ROOM (scanned room bytes begun).at 0)
    (done 0 0 (scanned room bytes begun).count))
    (done (scanned (length bytes) bytes begun).code (scanned (length bytes) bytes begun).at 0)

pub record Checks (bytes : List ℕ) (room : ℕ) (r : Done) : Type 0 where
  pub is : r ≡ checked bytes room
  pub within : r.count ≤ room

-- the event of the field at an offset, and the offset after it; none, where there is no good field
unfoldable pub one_at : List ℕ → ℕ → One
one_at bytes at =
    pick (field_code (drop at bytes) == 0)
    (record { event = event_in (drop at bytes); next = at + field_length (tag_in (drop at bytes)) })
    (record { event = no_event; next = at })

-- the events of so many fields from an offset on
unfoldable pub heard : ℕ → List ℕ → ℕ → List Event
heard zero bytes at = []
heard (suc n) bytes at = (one_at bytes at).event ∷ heard n bytes (one_at bytes at).next

pub record Reading : Type 0 where
  pub done : Done
  pub events : List Event

abbrev pub reading : Done → List Event → Reading
reading d es = record { done = d; events = es }

-- refused, and the list as it was, since no event is counted; or the events, and the places past them as they were
unfoldable pub read : List ℕ → List Event → Reading
read bytes out = reading (checked bytes (length out)) (heard (checked bytes (length out)).count bytes 0 ++ drop (checked bytes (length out)).count out)
