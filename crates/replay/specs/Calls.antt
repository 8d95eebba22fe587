-- What each event is to the unit (document 02, K8; the tags of recording, Layout).
--   kind_of, setting_of, signal_of, order_of, act_of   the parts of a call, by the event's numbers
--   call_of                  the call that an event records
--   kind_number, flag, bare_event, setup_event, line_event, order_tag, act_event   and the other way
--   event_of, write_event     the event of a call, and of a host write
-- Not here: what playing one does, in Replay; that each is the other's, in laws/Calls.
-- Assumes nothing.
use Rattle.std.specs.Prelude.{Bool, false, not, ℕ, ◌%◌, eqb, ltb, replicate}
use Rattle.ground.specs.Choose.{pick, bit}
use Rattle.interrupt.specs.declared.Kind.{Kind}
use Rattle.interrupt.specs.declared.Kind.TheVariants.{Eds8, MightyMux}
use Rattle.unit.specs.declared.mux.Setting.{Setting}
use Rattle.lines.specs.declared.signal.Signal.{Signal}
use Rattle.lines.specs.declared.signal.Signal.TheVariants.{Arrival, TransmitterEmpty, DeviceStatus}
use Rattle.processor.specs.declared.orders.Order.{Order}
use Rattle.processor.specs.declared.orders.Order.TheVariants.{Reset, Iopls, Start, Doc, Dob, Dia, Dias, Tick}
use Rattle.calls.specs.declared.call.Act.{Act}
use Rattle.calls.specs.declared.call.Act.TheVariants.{Line, Processor, Inspect}
use Rattle.calls.specs.declared.call.What.{What}
use Rattle.calls.specs.declared.call.What.TheVariants.{Setup, Do, Sweep}
use Rattle.calls.specs.declared.call.Call.{Call}
use Rattle.calls.specs.Calls.{asking, setting_up}
use Rattle.recording.specs.declared.event.Event.{Event}

-- ---- an event as a call

unfoldable pub kind_of : ℕ → Kind
kind_of n = pick (eqb n 0) Eds8 MightyMux

-- tag 1: what setup was given
abbrev pub setting_of : Event → Setting
setting_of e = record { kind = kind_of e.first; block = e.second; ports = e.third; base = e.fourth; special = e.set }

-- tags 2 to 4: what a line did
unfoldable pub signal_of : Event → Signal
signal_of e =
    pick (eqb e.tag 2) (Arrival (e.second % 256) (not (eqb e.third 0)) (not (eqb e.fourth 0)))
    (pick (eqb e.tag 3) TransmitterEmpty (DeviceStatus (not (eqb e.second 0))))

-- tags 8 to 15: what the processor did
unfoldable pub order_of : ℕ → Order
order_of t =
    pick (eqb t 8) Reset
    (pick (eqb t 9) Iopls
    (pick (eqb t 10) Start
    (pick (eqb t 11) Doc
    (pick (eqb t 12) Dob
    (pick (eqb t 13) Dia
    (pick (eqb t 14) Dias
    Tick))))))

-- tags 2 to 4, 7, and 8 to 15
unfoldable pub act_of : Event → Act
act_of e = pick (ltb e.tag 5) (Line e.first (signal_of e)) (pick (eqb e.tag 7) Inspect (Processor (order_of e.tag)))

-- the call that an event records: tag 1 a setup, tag 5 a sweep
unfoldable pub call_of : Event → Call
call_of e = pick (eqb e.tag 1) (setting_up (setting_of e)) (pick (eqb e.tag 5) (asking (Sweep e.first)) (asking (Do (act_of e))))

-- ---- a call as an event

unfoldable pub kind_number : Kind → ℕ
kind_number Eds8 = 0
kind_number MightyMux = 1

abbrev pub flag : Bool → ℕ
flag b = bit b

-- two numbers and no set
abbrev pub bare_event : ℕ → ℕ → ℕ → Event
bare_event t a b = record { tag = t; first = a; second = b; third = 0; fourth = 0; set = replicate 128 false }

abbrev pub setup_event : Setting → Event
setup_event s = record { tag = 1; first = kind_number s.kind; second = s.block; third = s.ports; fourth = s.base; set = s.special }

unfoldable pub line_event : ℕ → Signal → Event
line_event p (Arrival c parity brk) = record { tag = 2; first = p; second = c; third = flag parity; fourth = flag brk; set = replicate 128 false }
line_event p TransmitterEmpty = bare_event 3 p 0
line_event p (DeviceStatus level) = bare_event 4 p (flag level)

unfoldable pub order_tag : Order → ℕ
order_tag Reset = 8
order_tag Iopls = 9
order_tag Start = 10
order_tag Doc = 11
order_tag Dob = 12
order_tag Dia = 13
order_tag Dias = 14
order_tag Tick = 15

unfoldable pub act_event : Act → Event
act_event (Line p e) = line_event p e
act_event (Processor o) = bare_event (order_tag o) 0 0
act_event Inspect = bare_event 7 0 0

unfoldable pub what_event : Setting → ℕ → What → Event
what_event s list Setup = setup_event s
what_event s list (Do a) = act_event a
what_event s list (Sweep n) = bare_event 5 n list

-- the event of a call with a list of so many places
abbrev pub event_of : Call → ℕ → Event
event_of c list = what_event c.setting list c.what

-- the event of a host write
abbrev pub write_event : ℕ → ℕ → Event
write_event address word = bare_event 6 address word
