-- The door (document 01, the unit and the host's memory: "lends it to be changed in place").
--   lent    what a call on the lent record leaves
--   Meets   the door's contract
--   Made    a list of calls made through the door, host writes between them
-- Not here: what the call does, `step` in Calls of the crate calls; what follows, in laws/.
-- Assumes nothing.
use Rattle.std.specs.Prelude.{◌≡◌, List, [], ◌∷◌, ℕ}
use Rattle.unit.specs.declared.mux.Mux.{Mux}
use Rattle.unit.specs.Reply.{Reply}
use Rattle.unit.specs.Reply.{World, world, Outcome}
use Rattle.calls.specs.declared.call.Call.{Call}
use Rattle.calls.specs.Calls.{step}
use Rattle.calls.specs.Events.{Event, calls, host_writes}

-- the reply, the lent record in the place of the one handed back, the memory and the list
abbrev pub lent : Reply → Mux → List ℕ → List ℕ → Outcome
lent r u m xs = record { reply = r; world = world u m; list = xs }

-- the door's contract: reply, record, memory and list are what the step gives
abbrev pub Meets : World → List ℕ → Call → Reply → Mux → List ℕ → List ℕ → Type 0
Meets w xs c r u m ys = lent r u m ys ≡ step w xs c

-- calls made through the door one after the other, each meeting its contract on the record that the one before left, and on the memory that it
-- left or the host has written since: from the world w by the events to the world v
pub data Made : World → List Event → World → Type 0 where
  ready : {w : World} → Made w [] w
  called : {w v : World} {es : List Event} (c : Call) (r : Reply) (u : Mux) (m xs ys : List ℕ) → Meets w xs c r u m ys → Made (world u m) es v → Made w (calls c xs ∷ es) v
  written : {w v : World} {es : List Event} (m : List ℕ) → Made (world w.mux m) es v → Made w (host_writes m ∷ es) v
