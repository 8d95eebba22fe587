-- Worked examples of a replay (document 02, K8).
--   Tags    the call of each tag, as the table of docs/RECORDING.md has them
--   Days    short recordings played: what they leave in the memory, with refused calls and refused events between, and in another memory
-- Not here: that they hold, in laws/Examples; the format, in recording, Examples.
-- Assumes nothing.
use Rattle.std.specs.Prelude.{◌≡◌, true, false, List, [], ◌∷◌, ◌++◌, ℕ, length, get_or, replicate}
use Rattle.ground.specs.Machine.{run}
use Rattle.interrupt.specs.declared.Kind.TheVariants.{Eds8, MightyMux}
use Rattle.unit.specs.Record.{no_mux}
use Rattle.lines.specs.declared.signal.Signal.TheVariants.{Arrival, TransmitterEmpty, DeviceStatus}
use Rattle.processor.specs.declared.orders.Order.TheVariants.{Reset, Iopls, Start, Doc, Dob, Dia, Dias, Tick}
use Rattle.calls.specs.declared.call.Act.TheVariants.{Line, Processor, Inspect}
use Rattle.calls.specs.declared.call.What.TheVariants.{Do, Sweep}
use Rattle.calls.specs.declared.call.Call.{Call}
use Rattle.calls.specs.Calls.{asking, setting_up}
use Rattle.recording.specs.declared.event.Event.{Event}
use Rattle.recording.specs.Pass.{Kept, kept}
use Rattle.replay.specs.declared.play.Played.{Played}
use Rattle.replay.specs.Replay.{begun, replayed}
use Rattle.replay.specs.Calls.{call_of}

-- an event without a set
abbrev plain : ℕ → ℕ → ℕ → ℕ → ℕ → Event
plain t a b c d = record { tag = t; first = a; second = b; third = c; fourth = d; set = replicate 128 false }

-- the call of a tag without data
abbrev bare_call : ℕ → Call
bare_call t = call_of (plain t 0 0 0 0)

pub record Tags : Type 0 where
  pub setup_eds8 : call_of (plain 1 0 8 2 64) ≡ setting_up (record { kind = Eds8; block = 8; ports = 2; base = 64; special = replicate 128 false })
  pub setup_mighty : call_of (plain 1 1 16 4 256) ≡ setting_up (record { kind = MightyMux; block = 16; ports = 4; base = 256; special = replicate 128 false })
  pub parity : call_of (plain 2 3 65 1 0) ≡ asking (Do (Line 3 (Arrival 65 true false)))
  pub break : call_of (plain 2 3 65 0 1) ≡ asking (Do (Line 3 (Arrival 65 false true)))
  pub empty : call_of (plain 3 3 0 0 0) ≡ asking (Do (Line 3 TransmitterEmpty))
  pub status : call_of (plain 4 3 1 0 0) ≡ asking (Do (Line 3 (DeviceStatus true)))
  pub sweep : call_of (plain 5 9 7 0 0) ≡ asking (Sweep 9)
  pub inspection : bare_call 7 ≡ asking (Do Inspect)
  pub reset : bare_call 8 ≡ asking (Do (Processor Reset))
  pub iopls : bare_call 9 ≡ asking (Do (Processor Iopls))
  pub start : bare_call 10 ≡ asking (Do (Processor Start))
  pub doc : bare_call 11 ≡ asking (Do (Processor Doc))
  pub dob : bare_call 12 ≡ asking (Do (Processor Dob))
  pub dia : bare_call 13 ≡ asking (Do (Processor Dia))
  pub dias : bare_call 14 ≡ asking (Do (Processor Dias))
  pub tick : bare_call 15 ≡ asking (Do (Processor Tick))

-- a recording played in a memory
abbrev played_in : List ℕ → List Event → Kept Played
played_in m es = run replayed (kept (begun (length m)) m) es

-- the word at an address after it is played in 32,768 words of 0
abbrev word_after : List Event → ℕ → ℕ
word_after es a = get_or (played_in (replicate 32768 0) es).lent a 0

-- an EDS-8 of two ports, the blocks at 64 and 72, is set up and started; port 1 is in automatic input, ICW 40000 octal, IBP 2000, LIB 2003; a character of code 1 arrives there
abbrev morning : List Event
morning = plain 1 0 8 2 64 ∷ plain 11 0 0 0 0 ∷ plain 6 72 0o40000 0 0 ∷ plain 6 76 2000 0 0 ∷ plain 6 78 2003 0 0 ∷ plain 2 1 1 0 0 ∷ []

-- refused one and all: a setup without ports, a sweep whose list has too few places, an arrival at a port that is not there
abbrev refused_calls : List Event
refused_calls = plain 1 0 8 0 64 ∷ plain 5 2 1 0 0 ∷ plain 2 2 9 0 0 ∷ []

-- the writer would refuse them: a level of 2, a host write of word 32768, an unused part, an unknown tag
abbrev refused_events : List Event
refused_events = plain 4 1 2 0 0 ∷ plain 6 32768 7 0 0 ∷ plain 7 0 0 0 1 ∷ plain 16 0 0 0 0 ∷ []

pub record Days : Type 0 where
  -- one inspection is port 0's; a sweep of two comes to port 1, whose byte goes to the right half of word 1000
  pub inspected : word_after (morning ++ (plain 7 0 0 0 0 ∷ [])) 1000 ≡ 0
  pub swept : word_after (morning ++ (plain 5 2 2 0 0 ∷ [])) 1000 ≡ 1
  -- what is refused changes nothing, and the rest is played
  pub calls_between : played_in (replicate 32768 0) (morning ++ (refused_calls ++ (plain 5 2 2 0 0 ∷ []))) ≡ played_in (replicate 32768 0) (morning ++ (plain 5 2 2 0 0 ∷ []))
  pub events_between : played_in (replicate 32768 0) (morning ++ (refused_events ++ (plain 5 2 2 0 0 ∷ []))) ≡ played_in (replicate 32768 0) (morning ++ (plain 5 2 2 0 0 ∷ []))
  -- the last word is written
  pub last_word : word_after (plain 6 32767 65535 0 0 ∷ []) 32767 ≡ 65535
  -- a memory of another length gives 7, and nothing is played
  pub short_memory : played_in (replicate 32767 0) morning ≡ kept (record { code = 7; mux = no_mux }) (replicate 32767 0)
  pub long_memory : played_in (replicate 32769 0) morning ≡ kept (record { code = 7; mux = no_mux }) (replicate 32769 0)
