-- What the numbers of a line of a session's text ask of the unit (tests/second/FORMAT.md, orders 1 to 14 and 35).
--   nth                         a number of the line: the opcode is the first, at 0
--   setting_of                   the setting of order 1, with the kind and the set that stand
--   signal_of, order_of, act_of    orders 2 to 4, 5 to 12, and 2 to 13
--   call_of                      orders 1 to 14 as a call
--   set_of                       the whole sets of order 28
--   arrival_call                 order 35's call, of the frame that was read
-- Not here: what a call does, `step` in Calls of the crate calls; the other orders, in Session; what is printed, in Said.
-- Assumes nothing.
use Rattle.std.specs.Prelude.{Bool, true, false, List, ℕ, ◌%◌, eqb, ltb, get_or, replicate}
use Rattle.ground.specs.Choose.{pick}
use Rattle.words.specs.Special.{set1974}
use Rattle.framing.specs.Read.{Frame}
use Rattle.unit.specs.declared.mux.Setting.{Setting}
use Rattle.lines.specs.declared.signal.Signal.{Signal}
use Rattle.lines.specs.declared.signal.Signal.TheVariants.{Arrival, TransmitterEmpty, DeviceStatus}
use Rattle.wire.specs.Wire.{arrival_of}
use Rattle.processor.specs.declared.orders.Order.{Order}
use Rattle.processor.specs.declared.orders.Order.TheVariants.{Reset, Iopls, Start, Doc, Dob, Dia, Dias, Tick}
use Rattle.calls.specs.declared.call.Act.{Act}
use Rattle.calls.specs.declared.call.Act.TheVariants.{Line, Processor, Inspect}
use Rattle.calls.specs.declared.call.What.TheVariants.{Do, Sweep}
use Rattle.calls.specs.declared.call.Call.{Call}
use Rattle.calls.specs.Calls.{asking, setting_up}
use Rattle.driver.specs.Poke.{level, kind_of}

-- a number of the line; a line that has fewer reads 0
abbrev pub nth : List ℕ → ℕ → ℕ
nth n k = get_or n k 0

-- order 1 b P base take
abbrev pub setting_of : ℕ → List Bool → List ℕ → Setting
setting_of kind codes n = record { kind = kind_of kind; block = nth n 1; ports = nth n 2; base = nth n 3; special = codes }

-- order 2 port byte parity break; order 3 port; order 4 port level
unfoldable pub signal_of : List ℕ → Signal
signal_of n =
    pick (eqb (nth n 0) 2) (Arrival (nth n 2 % 256) (level (nth n 3)) (level (nth n 4)))
    (pick (eqb (nth n 0) 3) TransmitterEmpty (DeviceStatus (level (nth n 2))))

-- orders 5 to 12: reset, IOPLS, START, DOC, DOB, DIA, DIAS, tick
unfoldable pub order_of : ℕ → Order
order_of op =
    pick (eqb op 5) Reset
    (pick (eqb op 6) Iopls
    (pick (eqb op 7) Start
    (pick (eqb op 8) Doc
    (pick (eqb op 9) Dob
    (pick (eqb op 10) Dia
    (pick (eqb op 11) Dias Tick))))))

-- orders 2 to 4 a line, 5 to 12 the processor, 13 one inspection
unfoldable pub act_of : List ℕ → Act
act_of n =
    pick (ltb (nth n 0) 5) (Line (nth n 1) (signal_of n))
    (pick (ltb (nth n 0) 13) (Processor (order_of (nth n 0))) Inspect)

-- order 1 a setup with that setting, 2 to 13 one thing, 14 n look: a sweep of n inspections
unfoldable pub call_of : Setting → List ℕ → Call
call_of s n =
    pick (eqb (nth n 0) 1) (setting_up s)
    (pick (ltb (nth n 0) 14) (asking (Do (act_of n))) (asking (Sweep (nth n 1))))

-- order 28: 0 no code special, 1 every code, 2 the 1974 set
unfoldable pub set_of : ℕ → List Bool
set_of which = pick (eqb which 0) (replicate 128 false) (pick (eqb which 1) (replicate 128 true) set1974)

-- order 35 port: the character that was read arrives there, with its two marks
abbrev pub arrival_call : ℕ → Frame → Call
arrival_call port r = asking (Do (Line port (arrival_of r)))
