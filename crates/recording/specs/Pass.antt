-- A list of events written into lent bytes (document 02, K8).
--   written              the fields one after the other
--   fault, full          the first event at fault; the first whose field has no room
--   Wrote, wrote, write  the call: what it answers, and every byte
--   Kept, kept           a state and what is lent beside it
--   first_pass, counted, faulted, checked_on   the pass that checks
--   second_pass, may_put, put_on   the pass that puts
--   passed, checked_all, told   one event of either; every event by the pass that checks; the answer
-- Not here: that the two passes come to the call, in laws/Passes.
-- Assumes nothing.
use Rattle.std.specs.Prelude.{ℕ, ◌+◌, ◌%◌, ◌^◌, Bool, true, false, not, ◌&&◌, List, [], ◌∷◌, ◌++◌, length, drop, ◌==◌, nat_le}
use Rattle.ground.specs.Choose.{pick}
use Rattle.ground.specs.Machine.{run}
use Rattle.recording.specs.declared.event.Event.{Event}
use Rattle.recording.specs.declared.pass.Pass.{Pass}
use Rattle.recording.specs.declared.reading.Done.{Done}
use Rattle.recording.specs.Scan.{done}
use Rattle.recording.specs.Layout.{field_length}
use Rattle.recording.specs.Event.{NO-ROOM, event_code}
use Rattle.recording.specs.Field.{field, pasted}

-- ---- the call

-- the fields one after the other
unfoldable pub written : List Event → List ℕ
written [] = []
written (e ∷ es) = field e ++ written es

-- the first event at fault, at the offset where its tag would stand; 0 where there is none
unfoldable pub fault : ℕ → List Event → Done
fault at [] = done 0 0 0
fault at (e ∷ es) = pick (event_code e == 0) (fault (at + field_length e.tag) es) (done (event_code e) at 0)

-- the first whose field does not end within so many bytes
unfoldable pub full : ℕ → ℕ → List Event → Done
full room at [] = done 0 0 0
full room at (e ∷ es) = pick (nat_le (at + field_length e.tag) room) (full room (at + field_length e.tag) es) (done NO-ROOM at 0)

pub record Wrote : Type 0 where
  pub done : Done
  pub bytes : List ℕ

abbrev pub wrote : Done → List ℕ → Wrote
wrote d xs = record { done = d; bytes = xs }

-- a fault comes first, then 18, and the bytes are as they were; or the fields, and the bytes past them as they were
unfoldable pub write : List Event → List ℕ → Wrote
write es out =
    pick ((fault 0 es).code == 0)
    (pick ((full (length out) 0 es).code == 0)
    (wrote (done 0 0 (length (written es))) (written es ++ drop (length (written es)) out))
    (wrote (full (length out) 0 es) out))
    (wrote (fault 0 es) out)

-- ---- the passes

-- a state, and what is lent beside it
pub record Kept (S : Type 0) : Type 0 where
  pub state : S
  pub lent : List ℕ

abbrev pub kept : {S : Type 0} → S → List ℕ → Kept S
kept s xs = record { state = s; lent = xs }

abbrev pub first_pass : ℕ → Pass
first_pass room = record { puts = false; code = 0; found = 0; at = 0; room = room }

-- a fault is found already, before which nothing comes
abbrev pub settled : ℕ → Bool
settled c = not (c == 0) && not (c == NO-ROOM)

-- a field of n bytes counted; the first that has no room is kept in mind
unfoldable pub counted : Pass → ℕ → Pass
counted p n =
    record {
      puts = p.puts;
      code = pick (p.code == 0) (pick (nat_le (p.at + n) p.room) p.code NO-ROOM) p.code;
      found = pick (p.code == 0) (pick (nat_le (p.at + n) p.room) p.found p.at) p.found;
      at = (p.at + n) % 2 ^ 64;
      room = p.room;
    }

-- a fault found here
abbrev pub faulted : Pass → ℕ → Pass
faulted p c = record { puts = p.puts; code = c; found = p.at; at = p.at; room = p.room }

-- one event checked
unfoldable pub checked_on : Pass → Event → Pass
checked_on p e = pick (settled p.code) p (pick (event_code e == 0) (counted p (field_length e.tag)) (faulted p (event_code e)))

-- nothing is at fault, in the event either, and it has room
abbrev pub may_put : Pass → ℕ → Event → Bool
may_put p room e = p.code == 0 && event_code e == 0 && nat_le (p.at + field_length e.tag) room

-- one event put
unfoldable pub put_on : Kept Pass → Event → Kept Pass
put_on k e =
    pick (may_put k.state (length k.lent) e)
    (kept (record { puts = k.state.puts; code = k.state.code; found = k.state.found; at = k.state.at + field_length e.tag; room = k.state.room }) (pasted k.state.at (field e) k.lent))
    k

-- one event of a pass
unfoldable pub passed : Kept Pass → Event → Kept Pass
passed k e = pick k.state.puts (put_on k e) (kept (checked_on k.state e) k.lent)

-- every event checked, from the start
abbrev pub checked_all : List Event → List ℕ → Kept Pass
checked_all es out = run passed (kept (first_pass (length out)) out) es

-- the pass that puts, at its start
abbrev pub second_pass : Pass → Pass
second_pass p = record { puts = true; code = p.code; found = p.found; at = 0; room = p.room }

-- the answer, by the pass that checked
unfoldable pub told : Pass → Done
told p = pick (p.code == 0) (done 0 0 p.at) (done p.code p.found 0)
