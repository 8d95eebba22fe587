-- What the processor does (document 01, of that name; document 02, K6; 001, 5; 000, 2.5).
--   reset_port, reset_unit   reset
--   switched               the other orders change only switches and the interrupt side
--   value_of, after         what each order returns, and the record after it
--   order                  the call, which refuses an unsound record
--   is_reset                the order that drops what the ports hold
-- Not here: what START, DIA, a tick and a reset do inside the interrupt side, in interrupt, Interrupt; what follows, in laws/Processor.
-- Assumes nothing.
use Rattle.std.specs.Prelude.{Bool, true, false, map, ℕ}
use Rattle.ground.specs.Choose.{pick}
use Rattle.words.specs.Field.{put}
use Rattle.words.specs.Codes.{SPEED}
use Rattle.interrupt.specs.declared.Kind.{Kind}
use Rattle.interrupt.specs.declared.Irq.{Irq}
use Rattle.interrupt.specs.Interrupt as Interrupt
use Rattle.unit.specs.declared.mux.Port.{Port}
use Rattle.unit.specs.declared.mux.Mux.{Mux}
use Rattle.unit.specs.Reply.{Replied}
use Rattle.unit.specs.Record.{no_character, remade}
use Rattle.unit.specs.Reply.{accepted, guarded}
use Rattle.unit.specs.Refusals.{refusal, of_unit}
use Rattle.processor.specs.declared.orders.Order.{Order}
use Rattle.processor.specs.declared.orders.Order.TheVariants.{Reset, Iopls, Start, Doc, Dob, Dia, Dias, Tick}

-- held character dropped, transmitter empty, Device Control 1, speed bits 000; the other control bits and the Device Status line kept
unfoldable pub reset_port : Port → Port
reset_port q =
    record {
      held = false;
      ch = no_character;
      empty = true;
      control = put SPEED 0 q.control;
      devcontrol = true;
      devstatus = q.devstatus;
    }

-- unit and clock off, flag and status 0 and no entry, position 0, every port reset
abbrev pub reset_unit : Mux → Mux
reset_unit u = remade u 0 false false (Interrupt.cleared u.irq) (map reset_port u.port)

-- the record with other switches and another interrupt side: position and held characters kept
abbrev pub switched : Mux → Bool → Bool → Irq → Mux
switched u runs clock irq = remade u u.pos runs clock irq u.port

-- the further result: DIA returns the status word, or a Mighty Mux's oldest entry; DIAS returns it, as it was before its START
abbrev pub value_of : Order → Kind → Irq → ℕ
value_of Reset k i = 0
value_of Iopls k i = 0
value_of Start k i = 0
value_of Doc k i = 0
value_of Dob k i = 0
value_of Dia k i = Interrupt.shown k i
value_of Dias k i = Interrupt.shown k i
value_of Tick k i = 0

-- the record after the order. IOPLS: clock on. START, and DIAS when it has read: flag and status 0, or a Mighty Mux's
-- oldest entry removed. DOC: the unit runs. DOB: it stops.
-- A tick: with the clock on status bit 0 and the flag, with it off nothing
unfoldable pub after : Order → Mux → Mux
after Reset u = reset_unit u
after Iopls u = switched u u.runs true u.irq
after Start u = switched u u.runs u.clock (Interrupt.started u.setting.kind u.irq)
after Doc u = switched u true u.clock u.irq
after Dob u = switched u false u.clock u.irq
after Dia u = u
after Dias u = switched u u.runs u.clock (Interrupt.started u.setting.kind u.irq)
after Tick u = switched u u.runs u.clock (pick u.clock (Interrupt.ticked u.irq) u.irq)

-- an order of the processor's
unfoldable pub order : Mux → Order → Replied
order u o = guarded (refusal (of_unit u)) u (accepted (value_of o u.setting.kind u.irq) (after o u))

-- the order that drops what the ports hold
abbrev pub is_reset : Order → Bool
is_reset Reset = true
is_reset Iopls = false
is_reset Start = false
is_reset Doc = false
is_reset Dob = false
is_reset Dia = false
is_reset Dias = false
is_reset Tick = false
