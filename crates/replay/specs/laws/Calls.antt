-- Every call has its event: the call is what it records, and the writer takes it.
--   Wide, SignalFits, ActFits, WhatFits   the numbers of a call as wide as the calls' own arguments, as every value of the types is
--   setup_back, act_back, sweep_back   the event of a setup, of one thing and of a sweep records that call
--   event_taken_lem, write_taken   the writer takes it
--   what_other, recorded_write   what happens where such an event is played
-- Not here: that the event of any call records that call, in proofs/laws/Calls; an event as bytes and back, in recording, laws/Trips.
-- Assumes nothing.
use Rattle.std.specs.Prelude.{◌≡◌, refl, Bool, true, false, not, ℕ, ◌≤◌, ◌%◌, eqb, leb, set}
use Rattle.std.proofs.Common.{◌∙◌, ap, arith, le-leb}
use Rattle.ground.specs.Choose.{pick, bit, first_of}
use Rattle.interrupt.specs.declared.Kind.{Kind}
use Rattle.interrupt.specs.declared.Kind.TheVariants.{Eds8, MightyMux}
use Rattle.unit.specs.declared.mux.Setting.{Setting}
use Rattle.lines.specs.declared.signal.Signal.{Signal}
use Rattle.lines.specs.declared.signal.Signal.TheVariants.{Arrival, TransmitterEmpty, DeviceStatus}
use Rattle.processor.specs.declared.orders.Order.{Order}
use Rattle.processor.specs.declared.orders.Order.TheVariants.{Reset, Iopls, Start, Doc, Dob, Dia, Dias, Tick}
use Rattle.calls.specs.declared.call.Act.{Act}
use Rattle.calls.specs.declared.call.Act.TheVariants.{Line, Processor, Inspect}
use Rattle.calls.specs.declared.call.What.{What}
use Rattle.calls.specs.declared.call.What.TheVariants.{Setup, Do, Sweep}
use Rattle.calls.specs.declared.call.Call.{Call}
use Rattle.unit.specs.Reply.{World, world}
use Rattle.calls.specs.Calls.{asking, setting_up}
use Rattle.recording.specs.Layout.{layout_of, most}
use Rattle.recording.specs.Event.{numbers_fit, none_marked, event_fits, event_code}
use Rattle.recording.specs.laws.Codes.{sound_code}
use Rattle.replay.specs.Replay.{played}
use Rattle.replay.specs.laws.Plays.{played_write}
use Rattle.replay.specs.Calls.{kind_of, signal_of, order_of, act_of, call_of, kind_number, bare_event, setup_event, line_event, order_tag, act_event, what_event, write_event}

-- a mark is read again, and a kind
flag_back : (b : Bool) → not (eqb (bit b) 0) ≡ b
unfolding bit
flag_back true = refl
flag_back false = refl

kind_back : (k : Kind) → kind_of (kind_number k) ≡ k
unfolding kind_of kind_number pick
kind_back Eds8 = refl
kind_back MightyMux = refl

order_back : (o : Order) → order_of (order_tag o) ≡ o
unfolding order_of order_tag pick
order_back Reset = refl
order_back Iopls = refl
order_back Start = refl
order_back Doc = refl
order_back Dob = refl
order_back Dia = refl
order_back Dias = refl
order_back Tick = refl

-- the numbers of a call within its arguments' widths: a character is a byte, all else 32 bits
abbrev pub Wide : ℕ → Type 0
Wide n = n ≤ 4294967295

abbrev pub SignalFits : Signal → Type 0
SignalFits (Arrival c parity brk) = c ≤ 255
SignalFits TransmitterEmpty = Unit {0}
SignalFits (DeviceStatus level) = Unit {0}

abbrev pub ActFits : Act → Type 0
ActFits (Line p e) = Wide p × SignalFits e
ActFits (Processor o) = Unit {0}
ActFits Inspect = Unit {0}

abbrev pub WhatFits : Setting → ℕ → What → Type 0
WhatFits s list Setup = Wide s.block × Wide s.ports × Wide s.base
WhatFits s list (Do a) = ActFits a
WhatFits s list (Sweep n) = Wide n × Wide list

-- the call without the setting that only a setup reads
abbrev pub plain : Setting → What → Call
plain s Setup = setting_up s
plain s (Do a) = asking (Do a)
plain s (Sweep n) = asking (Sweep n)

signal_back : (p : ℕ) (e : Signal) → SignalFits e → act_of (line_event p e) ≡ Line p e
unfolding act_of signal_of line_event pick
signal_back p (Arrival c parity brk) h = let byte : c % 256 ≡ c = omega (arith, h) in rw (byte, flag_back parity, flag_back brk) refl
signal_back p TransmitterEmpty h = refl
signal_back p (DeviceStatus level) h = rw (flag_back level) refl

processor_back : (o : Order) → call_of (bare_event (order_tag o) 0 0) ≡ asking (Do (Processor o))
unfolding call_of act_of order_of order_tag pick
processor_back Reset = refl
processor_back Iopls = refl
processor_back Start = refl
processor_back Doc = refl
processor_back Dob = refl
processor_back Dia = refl
processor_back Dias = refl
processor_back Tick = refl

-- neither a setup nor a sweep is a line's
line_call : (p : ℕ) (e : Signal) → call_of (line_event p e) ≡ asking (Do (act_of (line_event p e)))
unfolding call_of line_event pick
line_call p (Arrival c parity brk) = refl
line_call p TransmitterEmpty = refl
line_call p (DeviceStatus level) = refl

inspect_back : call_of (bare_event 7 0 0) ≡ asking (Do Inspect)
unfolding call_of act_of pick
inspect_back = refl

pub sweep_back : (n list : ℕ) → call_of (bare_event 5 n list) ≡ asking (Sweep n)
unfolding call_of pick
sweep_back n list = refl

pub setup_back : (s : Setting) → call_of (setup_event s) ≡ setting_up s
unfolding call_of pick
setup_back s = ap (λ (k : Kind). setting_up (record { kind = k; block = s.block; ports = s.ports; base = s.base; special = s.special })) (kind_back s.kind)

line_back : (p : ℕ) (e : Signal) → SignalFits e → call_of (line_event p e) ≡ asking (Do (Line p e))
line_back p e h = line_call p e ∙ ap (λ (a : Act). asking (Do a)) (signal_back p e h)

pub act_back : (a : Act) → ActFits a → call_of (act_event a) ≡ asking (Do a)
unfolding act_event
act_back (Line p e) h = line_back p e h.1
act_back (Processor o) h = processor_back o
act_back Inspect h = inspect_back

-- ---- the writer takes it

-- a mark is at most 1
flag_most : (b : Bool) → leb (bit b) 1 ≡ true
unfolding bit
flag_most true = refl
flag_most false = refl

kind_most : (k : Kind) → leb (kind_number k) 1 ≡ true
unfolding kind_number
kind_most Eds8 = refl
kind_most MightyMux = refl

line_taken : (p : ℕ) (e : Signal) → Wide p → SignalFits e → event_code (line_event p e) ≡ 0
unfolding line_event event_fits numbers_fit none_marked layout_of most
line_taken p (Arrival c parity brk) h k = sound_code (line_event p (Arrival c parity brk)) (record { tagged = refl; fitting = rw (le-leb p 4294967295 h, le-leb c 255 k, flag_most parity, flag_most brk) refl })
line_taken p TransmitterEmpty h k = sound_code (bare_event 3 p 0) (record { tagged = refl; fitting = rw (le-leb p 4294967295 h) refl })
line_taken p (DeviceStatus level) h k = sound_code (line_event p (DeviceStatus level)) (record { tagged = refl; fitting = rw (le-leb p 4294967295 h, flag_most level) refl })

processor_taken : (o : Order) → event_code (bare_event (order_tag o) 0 0) ≡ 0
unfolding order_tag event_code event_fits numbers_fit none_marked layout_of most first_of pick
processor_taken Reset = refl
processor_taken Iopls = refl
processor_taken Start = refl
processor_taken Doc = refl
processor_taken Dob = refl
processor_taken Dia = refl
processor_taken Dias = refl
processor_taken Tick = refl

inspect_taken : event_code (bare_event 7 0 0) ≡ 0
unfolding event_code event_fits numbers_fit none_marked layout_of most first_of pick
inspect_taken = refl

sweep_taken : (n list : ℕ) → Wide n → Wide list → event_code (bare_event 5 n list) ≡ 0
unfolding event_fits numbers_fit none_marked layout_of most
sweep_taken n list h k = sound_code (bare_event 5 n list) (record { tagged = refl; fitting = rw (le-leb n 4294967295 h, le-leb list 4294967295 k) refl })

setup_taken : (s : Setting) → Wide s.block → Wide s.ports → Wide s.base → event_code (setup_event s) ≡ 0
unfolding event_fits numbers_fit layout_of most
setup_taken s a b c = sound_code (setup_event s) (record { tagged = refl; fitting = rw (kind_most s.kind, le-leb s.block 4294967295 a, le-leb s.ports 4294967295 b, le-leb s.base 4294967295 c) refl })

act_taken : (a : Act) → ActFits a → event_code (act_event a) ≡ 0
unfolding act_event
act_taken (Line p e) h = line_taken p e h.0 h.1
act_taken (Processor o) h = processor_taken o
act_taken Inspect h = inspect_taken

pub event_taken_lem : (s : Setting) (list : ℕ) (a : What) → WhatFits s list a → event_code (what_event s list a) ≡ 0
unfolding what_event
event_taken_lem s list Setup h = setup_taken s h.0 h.1 h.2
event_taken_lem s list (Do a) h = act_taken a h
event_taken_lem s list (Sweep n) h = sweep_taken n list h.0 h.1

pub write_taken : (address word : ℕ) → address ≤ 32767 → word ≤ 65535 → event_code (write_event address word) ≡ 0
unfolding event_fits numbers_fit none_marked layout_of most
write_taken address word h k = sound_code (write_event address word) (record { tagged = refl; fitting = rw (le-leb address 32767 h, le-leb word 65535 k) refl })

-- ---- what happens where it is played

-- no call is a host write's
line_other : (p : ℕ) (e : Signal) → eqb (line_event p e).tag 6 ≡ false
unfolding line_event
line_other p (Arrival c parity brk) = refl
line_other p TransmitterEmpty = refl
line_other p (DeviceStatus level) = refl

order_other : (o : Order) → eqb (order_tag o) 6 ≡ false
unfolding order_tag
order_other Reset = refl
order_other Iopls = refl
order_other Start = refl
order_other Doc = refl
order_other Dob = refl
order_other Dia = refl
order_other Dias = refl
order_other Tick = refl

act_other : (a : Act) → eqb (act_event a).tag 6 ≡ false
unfolding act_event
act_other (Line p e) = line_other p e
act_other (Processor o) = order_other o
act_other Inspect = refl

pub what_other : (s : Setting) (list : ℕ) (a : What) → eqb (what_event s list a).tag 6 ≡ false
unfolding what_event
what_other s list Setup = refl
what_other s list (Do a) = act_other a
what_other s list (Sweep n) = refl

-- a word that the host wrote, recorded and played, is written
pub recorded_write : (w : World) (address word : ℕ) → address ≤ 32767 → word ≤ 65535 → played w (write_event address word) ≡ world w.mux (set w.memory address word)
recorded_write w address word h k =
    let small : word % 65536 ≡ word = omega (arith, k) in
    played_write w (write_event address word) (write_taken address word h k) refl ∙ ap (λ (x : ℕ). world w.mux (set w.memory address x)) small
