-- Lists of calls and host writes (document 01, what a proof here has to nail: "any list of calls and host writes").
--   Event, happens, run    a call with the list that it is lent, or a host write; the world after one, and after a list
--   Single, result, after  a single thing: a call that is no sweep, or a host write; what it answers and leaves
--   NoSetup                a single thing that brings no new setting
--   run_singles             the world after a list of single things
--   singles_of, singles     the single things that an event comes to where it happens, a sweep being the inspections that it makes
--   single                 a single thing as an event
--   counted                an inspection that counts
-- Not here: that running events is running their single things, in laws/Singles; the other tests of a single thing, in waiting, Counting.
-- Assumes nothing.
use Rattle.std.specs.Prelude.{◌≡◌, Bool, List, [], ◌∷◌, ◌++◌, ℕ, replicate}
use Rattle.ground.specs.Machine
use Rattle.unit.specs.declared.mux.Setting.{Setting}
use Rattle.unit.specs.Reply.{counts, nothing, answered, World, world, Looked, looked}
use Rattle.unit.specs.Refusals.{refusal, of_setup}
use Rattle.unit.specs.Setup.{setup}
use Rattle.sweep.specs.Sweep.{sweep}
use Rattle.calls.specs.declared.call.Act.{Act}
use Rattle.calls.specs.declared.call.Act.TheVariants.{Inspect}
use Rattle.calls.specs.declared.call.What.{What}
use Rattle.calls.specs.declared.call.What.TheVariants.{Setup, Do, Sweep}
use Rattle.calls.specs.declared.call.Call.{Call}
use Rattle.calls.specs.Calls.{set_up, performed, step, asking, setting_up}

-- ---- events

-- a call, with the list that it is lent; or a host write, which may put any words into the memory
pub data Event : Type 0 where
  calls : (c : Call) (list : List ℕ) → Event
  host_writes : (m : List ℕ) → Event

-- the world after one event, and after a list of them, each on the record as the one before left it
unfoldable pub happens : World → Event → World
happens w (calls c list) = (step w list c).world
happens w (host_writes m) = world w.mux m

abbrev pub run : World → List Event → World
run w es = Machine.run happens w es

-- ---- single things

-- a setup; one thing asked of the unit that stands; a host write
pub data Single : Type 0 where
  sets_up : (s : Setting) → Single
  does : (a : Act) → Single
  writes : (m : List ℕ) → Single

-- no setup, or one that is refused
abbrev pub NoSetup : Single → Type 0
NoSetup (sets_up s) = refusal (of_setup s) ≡ 0 → ⊥
NoSetup (does a) = Unit {0}
NoSetup (writes m) = Unit {0}

-- what a single thing answers and leaves; a host write answers nothing
unfoldable pub result : World → Single → Looked
result w (sets_up s) = looked (set_up w.mux (setup s)) w.memory
result w (does a) = performed w a
result w (writes m) = looked (answered nothing w.mux) m

-- the world after one single thing, and after a list of them
abbrev pub after : World → Single → World
after w a = (result w a).world

abbrev pub run_singles : World → List Single → World
run_singles w xs = Machine.run after w xs

-- the single things that a call comes to where it is made: itself, or the inspections that a sweep makes
unfoldable pub singles_in : World → List ℕ → Setting → What → List Single
singles_in w list s Setup = sets_up s ∷ []
singles_in w list s (Do a) = does a ∷ []
singles_in w list s (Sweep n) = replicate (sweep w.mux w.memory n list).reply.made (does Inspect)

-- the single things that an event comes to, and a list of events
unfoldable pub singles_of : World → Event → List Single
singles_of w (calls c list) = singles_in w list c.setting c.what
singles_of w (host_writes m) = writes m ∷ []

unfoldable pub singles : World → List Event → List Single
singles w [] = []
singles w (e ∷ es) = singles_of w e ++ singles (happens w e) es

-- a single thing as an event; none of them has a list
unfoldable pub single : Single → Event
single (sets_up s) = calls (setting_up s) []
single (does a) = calls (asking (Do a)) []
single (writes m) = host_writes m

-- ---- inspections that count

-- an inspection that counts, by what it answers: neither refused nor of a stopped unit
unfoldable pub counted : World → Single → Bool
counted w a = counts (result w a).reply.answer.turn
