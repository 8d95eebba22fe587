-- An event, and what a writer finds at fault in one (document 02, K8).
--   13, 14, 15, 18, 21   the numbers, by name
--   no_event           all zeros
--   numbers_fit, none_marked, event_fits   whether what stands in an event may stand there
--   event_code         13, 21 or 0
-- Not here: an event as bytes, in Field; what follows, in laws/.
-- Assumes nothing.
use Rattle.std.specs.Prelude.{ℕ, Bool, true, false, not, ◌&&◌, ◌||◌, List, [], ◌∷◌, replicate, nat_le}
use Rattle.ground.specs.Choose.{first_of, row}
use Rattle.recording.specs.Layout.{Layout, most, known, layout_of}
use Rattle.recording.specs.declared.event.Event.{Event}

-- an unknown tag; another length than the tag's; bytes missing; no room in what is lent; a value that may not stand there
abbrev pub UNKNOWN-TAG : ℕ
UNKNOWN-TAG = 13

abbrev pub WRONG-LENGTH : ℕ
WRONG-LENGTH = 14

abbrev pub CUT-SHORT : ℕ
CUT-SHORT = 15

abbrev pub NO-ROOM : ℕ
NO-ROOM = 18

abbrev pub BAD-VALUE : ℕ
BAD-VALUE = 21

-- all zeros: the tag of no event
abbrev pub no_event : Event
no_event = record { tag = 0; first = 0; second = 0; third = 0; fourth = 0; set = replicate 128 false }

-- every number may stand in its part; an unused part is 0
unfoldable pub numbers_fit : Layout → Event → Bool
numbers_fit l e = nat_le e.first (most l.first) && nat_le e.second (most l.second) && nat_le e.third (most l.third) && nat_le e.fourth (most l.fourth)

-- no code is in the set
unfoldable pub none_marked : List Bool → Bool
none_marked [] = true
none_marked (b ∷ bs) = not b && none_marked bs

-- and the set is empty where the tag has none
unfoldable pub event_fits : Event → Bool
event_fits e = numbers_fit (layout_of e.tag) e && ((layout_of e.tag).set || none_marked e.set)

-- what is at fault in an event
unfoldable pub event_code : Event → ℕ
event_code e = first_of (row UNKNOWN-TAG (not (known e.tag)) ∷ row BAD-VALUE (not (event_fits e)) ∷ [])
