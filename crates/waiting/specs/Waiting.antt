-- Demand 3: nobody waits for ever. The statement; its proof is `demand` in proofs/laws/Proof.
-- "A running unit of P ports, with no stop, reset or new setup until the wait is over; refused inspections don't count. Within P inspections
-- after a character arrives it has been served by the rules of 2, once and not again, or a later character of its own line replaced it first
-- and carries the overload mark. In any (k+1)·P inspections that begin with a port's transmitter empty, in which at most k of its own turns
-- go to input and no echo fills that transmitter, its output is served. Both hold whatever other lines do and whatever the host writes; only
-- an echo of the port's own falls outside the second."
-- Where each phrase stands:
--   a running unit of P ports              Running, P
--   no stop, reset or new setup            Broken, OutputBroken: the unit stops; by what alone it does: Breaks
--   until the wait is over                 alone of WithinP, unserved of WithinKP
--   refused inspections don't count        Counts, inspections
--   within P inspections                   soon of WithinP; FirstBound
--   after a character arrives              Takes
--   served by the rules of 2               rules of ServiceTurn
--   once and not again                     NotAgain; Balance
--   a later character replaced it ..       Replacement
--   in any (k+1)·P inspections ..          soon of WithinKP; SecondBound
--   no echo fills that transmitter         Echo
--   whatever other lines do and the host writes   every statement is of any list of single things
-- A single thing is a call that is no sweep, or a host write. Every statement is of any world and any list of single things, and a sweep comes to the inspections
-- that it makes (`events`, `door`): so a window may begin and end inside one. Every list of single things is that of some calls (`windows`).
-- Not here: events and single things, in calls, Events; the tests by which things are counted, in Counting; the turn of a port that goes to a service, in
-- scan, Scan.
-- Assumes nothing.
use Rattle.std.specs.Prelude.{◌≡◌, Bool, true, false, List, map, ◌↔◌, ◌⊎◌, ℕ, ◌+◌, ◌*◌, ◌≤◌, ◌<◌, length}
use Rattle.ground.specs.Choose.{bit}
use Rattle.ground.specs.Machine.{tally, Throughout, Until}
use Rattle.interrupt.specs.declared.Service.{Service}
use Rattle.interrupt.specs.declared.Service.TheVariants.{Input, Output}
use Rattle.unit.specs.declared.mux.Setting.{Setting}
use Rattle.unit.specs.declared.mux.Character.{Character}
use Rattle.unit.specs.Record.{port_at}
use Rattle.unit.specs.Reply.{World}
use Rattle.unit.specs.Refusals.{WORDS, MOST-PORTS, refusal, of_setup}
use Rattle.unit.specs.Sound.{Sound, AllPorts}
use Rattle.lines.specs.declared.signal.Signal.TheVariants.{Arrival}
use Rattle.lines.specs.Lines.{arrived_port}
use Rattle.processor.specs.declared.orders.Order.TheVariants.{Reset, Dob}
use Rattle.scan.specs.Scan.{service_turn}
use Rattle.sweep.specs.Sweep.{sweep}
use Rattle.calls.specs.declared.call.Act.TheVariants.{Line, Processor, Inspect}
use Rattle.calls.specs.declared.call.What.TheVariants.{Sweep}
use Rattle.calls.specs.Events.{Event, run, Single, sets_up, does, result, after, run_singles, singles_in, singles, single, counted}
use Rattle.door.specs.Door.{Made}
use Rattle.waiting.specs.Counting.{turn_at, service_at, input_at, output_at, takes_at, holds_at, replaces_at, drops_at}

-- ---- the unit

-- how many ports it has
abbrev pub P : World → ℕ
P w = w.mux.setting.ports

-- it is sound, and started
pub record Running (w : World) : Type 0 where
  pub sound : Sound w.mux
  pub runs : w.mux.runs ≡ true

-- port p holds the character c
pub record Holds (p : ℕ) (c : Character) (w : World) : Type 0 where
  pub held : holds_at p w ≡ true
  pub same : (port_at w.mux p).ch ≡ c

-- port p's transmitter is empty
abbrev pub Empty : ℕ → World → Type 0
Empty p w = (port_at w.mux p).empty ≡ true

-- a world reached from an accepted setup by any single things
pub record Since (w : World) : Type 0 where
  pub before : World
  pub setting : Setting
  pub accepted : refusal (of_setup setting) ≡ 0
  pub since : List Single
  pub now : w ≡ run_singles (after before (sets_up setting)) since

-- ---- a single thing, where it is made

-- a character that port p takes: it arrives at a sound unit that has the port
pub record Takes (p : ℕ) (w : World) (a : Single) : Type 0 where
  pub byte : ℕ
  pub parity : Bool
  pub brk : Bool
  pub arrival : a ≡ does (Line p (Arrival byte parity brk))
  pub sound : Sound w.mux
  pub below : p < P w

-- port p is after it as the lines' rule has it
abbrev pub Arrived : (p : ℕ) (w : World) (a : Single) → Takes p w a → Type 0
Arrived p w a t = port_at (after w a).mux p ≡ arrived_port (port_at w.mux p) t.byte t.parity t.brk

-- port p's turn that goes to the service k, as demand 2 has it: record, memory and reply
pub record ServiceTurn (k : Service) (p : ℕ) (w : World) (a : Single) : Type 0 where
  pub look : a ≡ does Inspect
  pub position : w.mux.pos ≡ p
  pub rules : result w a ≡ service_turn k w.mux w.memory

-- the unit does not run after it
abbrev pub Stops : World → Single → Type 0
Stops w a = (after w a).mux.runs ≡ false

-- ---- counts over a list of single things (what each test is true of: Tests, below)

-- inspections that are not refused, of a running unit
abbrev pub inspections : World → List Single → ℕ
inspections w xs = tally after counted w xs

-- port p's own turns that go to input, and those that go to output
abbrev pub inputs : ℕ → World → List Single → ℕ
inputs p w xs = tally after (input_at p) w xs

abbrev pub outputs : ℕ → World → List Single → ℕ
outputs p w xs = tally after (output_at p) w xs

-- characters that port p takes
abbrev pub taken : ℕ → World → List Single → ℕ
taken p w xs = tally after (takes_at p) w xs

-- ---- a wait

-- the unit runs, and C holds
abbrev pub While : (World → Type 0) → World → Type 0
While C w = Running w × C w

-- so it was at every moment, within the bound, until a single thing of the list ended it
pub record Ended (C : World → Type 0) (Bound : World → List Single → Type 0) (End : World → Single → Type 0) (w : World) (xs : List Single) : Type 0 where
  pub wait : Until after (While C) w xs
  pub bound : Bound w wait.before
  pub end : End (run_singles w wait.before) wait.here

-- so it is at every moment, within the bound
pub record Lasts (C : World → Type 0) (Bound : World → List Single → Type 0) (w : World) (xs : List Single) : Type 0 where
  pub still : Throughout after (While C) w xs
  pub bound : Bound w xs

-- ---- the first bound: a held character

-- no character was taken at port p, so it is the same one that waits; and fewer than P inspections counted
pub record WithinP (p : ℕ) (w : World) (xs : List Single) : Type 0 where
  pub alone : taken p w xs ≡ 0
  pub soon : inspections w xs < P w

-- whatever follows, port p has no more turns to input than it takes characters
abbrev pub NotAgain : ℕ → World → Type 0
NotAgain p w = (xs : List Single) → inputs p w xs ≤ taken p w xs

-- port p's turn went to input, and not again for this character
pub record InputServed (p : ℕ) (w : World) (a : Single) : Type 0 where
  pub turn : ServiceTurn Input p w a
  pub once : NotAgain p (after w a)

-- a later character of its own line is held in its place, and carries the overload mark
pub record Replacement (p : ℕ) (w : World) (a : Single) : Type 0 where
  pub later : Takes p w a
  pub arrived : Arrived p w a later
  pub mark : (port_at (after w a).mux p).ch.overload ≡ true

abbrev pub Served : ℕ → Character → World → List Single → Type 0
Served p c = Ended (Holds p c) (WithinP p) (InputServed p)

abbrev pub Replaced : ℕ → Character → World → List Single → Type 0
Replaced p c = Ended (Holds p c) (WithinP p) (Replacement p)

-- the unit stopped while it waited
abbrev pub Broken : ℕ → Character → World → List Single → Type 0
Broken p c = Ended (Holds p c) (WithinP p) Stops

-- all that can become of a held character: the last is that it waits still
pub data Fate (p : ℕ) (c : Character) (w : World) (xs : List Single) : Type 0 where
  served : Served p c w xs → Fate p c w xs
  replaced : Replaced p c w xs → Fate p c w xs
  broken : Broken p c w xs → Fate p c w xs
  waits : Lasts (Holds p c) (WithinP p) w xs → Fate p c w xs

abbrev pub HeldCharacter : Type 0
HeldCharacter = (w : World) (p : ℕ) (c : Character) (xs : List Single) → Running w → p < P w → Holds p c w → Fate p c w xs

-- within P inspections after a character arrives it has been served, or a later one of its own line replaced it and carries the mark; in
-- every world of a kind
abbrev pub FirstBound : (World → Type 0) → Type 0
FirstBound Kind =
    (v : World) (p : ℕ) (a : Single) (xs : List Single) → Kind v → Running v → Takes p v a →
    let w = after v a in let c = (port_at w.mux p).ch in
    (Broken p c w xs → ⊥) → P w ≤ inspections w xs →
    Served p c w xs ⊎ Replaced p c w xs

-- ---- the second bound: an empty transmitter

-- port p's output was not served; and fewer than P inspections counted, and P more for each of its own turns that went to input
pub record WithinKP (p : ℕ) (w : World) (xs : List Single) : Type 0 where
  pub unserved : outputs p w xs ≡ 0
  pub soon : inspections w xs < (inputs p w xs + 1) * P w

-- an echo of the port's own fills its transmitter
pub record Echo (p : ℕ) (w : World) (a : Single) : Type 0 where
  pub input : ServiceTurn Input p w a
  pub sent : (result w a).reply.answer.sent ≡ true
  pub full : (port_at (after w a).mux p).empty ≡ false

abbrev pub OutputServed : ℕ → World → List Single → Type 0
OutputServed p = Ended (Empty p) (WithinKP p) (ServiceTurn Output p)

abbrev pub Echoed : ℕ → World → List Single → Type 0
Echoed p = Ended (Empty p) (WithinKP p) (Echo p)

-- the unit stopped while it waited
abbrev pub OutputBroken : ℕ → World → List Single → Type 0
OutputBroken p = Ended (Empty p) (WithinKP p) Stops

-- all that can become of an empty transmitter: the last is that it waits still
pub data OutputFate (p : ℕ) (w : World) (xs : List Single) : Type 0 where
  served : OutputServed p w xs → OutputFate p w xs
  echoed : Echoed p w xs → OutputFate p w xs
  broken : OutputBroken p w xs → OutputFate p w xs
  waits : Lasts (Empty p) (WithinKP p) w xs → OutputFate p w xs

abbrev pub EmptyTransmitter : Type 0
EmptyTransmitter = (w : World) (p : ℕ) (xs : List Single) → Running w → p < P w → Empty p w → OutputFate p w xs

-- in any (k+1)·P inspections that begin with port p's transmitter empty, with at most k of its own turns to input and no echo, its output is
-- served within them
abbrev pub SecondBound : Type 0
SecondBound =
    (w : World) (p k : ℕ) (xs : List Single) → Running w → p < P w → Empty p w →
    inputs p w xs ≤ k → (Echoed p w xs → ⊥) →
    (OutputBroken p w xs → ⊥) → (k + 1) * P w ≤ inspections w xs →
    (h : OutputServed p w xs) × (inspections w h.wait.before < (k + 1) * P w)

-- ---- beside the demand: what its words mean

-- an inspection that counts: of a running unit, with a memory of 32,768 words
pub record Counts (w : World) (a : Single) : Type 0 where
  pub look : a ≡ does Inspect
  pub running : Running w
  pub words : length w.memory ≡ WORDS

-- a reset of a sound unit, or an accepted setup: what a port holds is dropped
pub data Clears (w : World) (a : Single) : Type 0 where
  reset : Sound w.mux → a ≡ does (Processor Reset) → Clears w a
  setup : (s : Setting) → refusal (of_setup s) ≡ 0 → a ≡ sets_up s → Clears w a

-- a stop, a reset or a new setup
pub data Breaks (w : World) (a : Single) : Type 0 where
  stop : Sound w.mux → a ≡ does (Processor Dob) → Breaks w a
  clears : Clears w a → Breaks w a

-- the tests of Counting, and `counted` of calls, Events, are true exactly of what the records above say; and a running unit stops by a stop, a reset or a new setup, and by
-- nothing else
pub record Tests : Type 0 where
  pub counting : (w : World) (a : Single) → (counted w a ≡ true) ↔ Counts w a
  pub turning : (p : ℕ) (w : World) (a : Single) → (turn_at p w a ≡ true) ↔ (Counts w a × (w.mux.pos ≡ p))
  pub serving : (k : Service) (p : ℕ) (w : World) (a : Single) → (service_at k p w a ≡ true) ↔ ServiceTurn k p w a
  pub taking : (p : ℕ) (w : World) (a : Single) → (takes_at p w a ≡ true) ↔ Takes p w a
  pub replacing : (p : ℕ) (w : World) (a : Single) → (replaces_at p w a ≡ true) ↔ (Takes p w a × (holds_at p w ≡ true))
  pub dropping : (p : ℕ) (w : World) (a : Single) → (drops_at p w a ≡ true) ↔ (Clears w a × (holds_at p w ≡ true))
  pub breaking : (w : World) (a : Single) → Running w → Stops w a ↔ Breaks w a

-- a character that is taken is held, as the lines' rule has it
abbrev pub Arrivals : Type 0
Arrivals = (p : ℕ) (w : World) (a : Single) → AllPorts w.mux → (t : Takes p w a) → Arrived p w a t

-- ---- beside the demand: what holds of every list

-- in any P counted inspections of a unit that runs all along, every port gets exactly one turn
abbrev pub Rotation : Type 0
Rotation =
    (w : World) (xs : List Single) (p : ℕ) → Sound w.mux → p < P w →
    Throughout after (λ v. v.mux.runs ≡ true) w xs → inspections w xs ≡ P w →
    tally after (turn_at p) w xs ≡ 1

-- no character is lost uncounted or served twice: what was taken and held at the start is what was served, replaced, dropped by a reset or a
-- new setup, and is held at the end
abbrev pub Balance : Type 0
Balance =
    (w : World) (p : ℕ) (xs : List Single) → AllPorts w.mux → p < MOST-PORTS →
    taken p w xs + bit (holds_at p w) ≡ inputs p w xs + tally after (replaces_at p) w xs + tally after (drops_at p) w xs + bit (holds_at p (run_singles w xs))

-- what a setup made has its 128 ports ever after
abbrev pub Places : Type 0
Places = (w : World) → Since w → AllPorts w.mux

-- ---- beside the demand: lists of calls

-- running a list of events is running the single things that it comes to
abbrev pub Events : Type 0
Events = (w : World) (es : List Event) → run w es ≡ run_singles w (singles w es)

-- every list of single things is that of some events
abbrev pub Windows : Type 0
Windows = (w : World) (xs : List Single) → singles w (map single xs) ≡ xs

-- the record and the memory after a list of calls made through the door are what their single things give
abbrev pub Door : Type 0
Door = (w v : World) (es : List Event) → Made w es v → v ≡ run_singles w (singles w es)

-- a sweep makes exactly as many counted inspections as it says
abbrev pub Sweeps : Type 0
Sweeps = (w : World) (n : ℕ) (list : List ℕ) (s : Setting) → inspections w (singles_in w list s (Sweep n)) ≡ (sweep w.mux w.memory n list).reply.made

-- ---- demand 3

pub record Demand : Type 0 where
  pub input : HeldCharacter
  pub first_bound : FirstBound Since
  pub any_record : FirstBound (λ v. AllPorts v.mux)
  pub output : EmptyTransmitter
  pub second_bound : SecondBound
  pub tests : Tests
  pub arrivals : Arrivals
  pub rotation : Rotation
  pub balance : Balance
  pub places : Places
  pub events : Events
  pub windows : Windows
  pub door : Door
  pub sweeps : Sweeps
