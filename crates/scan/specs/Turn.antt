-- A turn of a port (document 01, one inspection): what it reads is the setting, the port's number, the port, the interrupt side and the
-- memory; what it changes is the port, the interrupt side and the memory.
--   Turned, turned_of     what a turn changes, and the same of what the code gives
--   service               the service of either kind
--   took_input, took_output, took   the port after it
--   irq_after              the interrupt side after it
--   served_turn, idle_turn  a turn that goes to a service, and one that serves nothing
--   turn                  which it is
-- Not here: where the port stands in the record, and the position, in Scan; what follows, in laws/Scan.
-- Assumes nothing.
use Rattle.std.specs.Prelude.{Bool, false, not, ◌&&◌, List, ℕ}
use Rattle.ground.specs.Choose.{pick}
use Rattle.interrupt.specs.declared.Service.{Service}
use Rattle.interrupt.specs.declared.Service.TheVariants.{Input, Output}
use Rattle.interrupt.specs.declared.Irq.{Irq}
use Rattle.interrupt.specs.Interrupt.{raised}
use Rattle.unit.specs.declared.mux.Setting.{Setting}
use Rattle.unit.specs.declared.mux.Port.{Port}
use Rattle.unit.specs.declared.reply.Turn.TheVariants.{Idle, Served}
use Rattle.unit.specs.Record.{no_character, block_at, address_at}
use Rattle.unit.specs.Reply.{Answer, Effect, Serviced, answer_of}
use Rattle.input.specs.Input.{input_service}
use Rattle.output.specs.Output.{output_service}
use Rattle.scan.specs.declared.turn.Turned.{Turned as TurnedMade}

-- what a turn changes: the answer, the port and the interrupt side after it
pub record Turned : Type 0 where
  pub answer : Answer
  pub port : Port
  pub irq : Irq

-- the same of what the code gives: there a byte may be absent
abbrev pub turned_of : TurnedMade → Turned
turned_of t = record { answer = answer_of t.answer; port = t.port; irq = t.irq }

-- the service of a port, whose control block starts at the word a, in a unit with that set of special codes
unfoldable pub service : Service → List Bool → List ℕ → ℕ → Port → Serviced
service Input codes m a q = input_service codes m a q
service Output codes m a q = output_service codes m a q

-- the port after output: the transmitter not empty if a byte was handed to it
abbrev pub took_output : Port → Effect → Port
took_output q e =
    record {
      held = q.held;
      ch = q.ch;
      empty = q.empty && not e.sent;
      control = e.control;
      devcontrol = e.devcontrol;
      devstatus = q.devstatus;
    }

-- the port after input: the held character taken, the transmitter not empty if an echo was handed to it
abbrev pub took_input : Port → Effect → Port
took_input q e =
    record {
      held = false;
      ch = no_character;
      empty = q.empty && not e.sent;
      control = e.control;
      devcontrol = e.devcontrol;
      devstatus = q.devstatus;
    }

-- the port after a service
unfoldable pub took : Service → Port → Effect → Port
took Input q e = took_input q e
took Output q e = took_output q e

-- the interrupt side after a service of port p
unfoldable pub irq_after : Setting → ℕ → Irq → Service → Bool → Irq
irq_after s p i k r = pick r (raised s.kind k (address_at s p) i) i

-- what a turn leaves: what it changes, and the memory
pub record Turning : Type 0 where
  pub turned : Turned
  pub memory : List ℕ

abbrev pub turning : Turned → List ℕ → Turning
turning t m = record { turned = t; memory = m }

-- a turn that served: its kind, its port, the byte handed over, the interrupt
abbrev pub served_as : Setting → ℕ → Port → Irq → Service → Effect → Turned
served_as s p q i k e =
    record {
      answer = record { turn = Served k; port = p; sent = e.sent; byte = e.byte; raised = e.raised };
      port = took k q e;
      irq = irq_after s p i k e.raised;
    }

-- a turn that serves nothing: it names its port
abbrev pub idle_as : ℕ → Port → Irq → Turned
idle_as p q i = record { answer = record { turn = Idle; port = p; sent = false; byte = 0; raised = false }; port = q; irq = i }

-- a turn that goes to a service
unfoldable pub served_turn : Service → Setting → ℕ → Port → Irq → List ℕ → Turning
served_turn k s p q i m =
    let v = service k s.special m (block_at s p) q in
    turning (served_as s p q i k v.effect) v.memory

-- a turn that serves nothing
unfoldable pub idle_turn : ℕ → Port → Irq → List ℕ → Turning
idle_turn p q i m = turning (idle_as p q i) m

-- the turn of port p: a held character means input; otherwise an empty transmitter means output; otherwise nothing is done
unfoldable pub turn : Setting → ℕ → Port → Irq → List ℕ → Turning
turn s p q i m = pick q.held (served_turn Input s p q i m) (pick q.empty (served_turn Output s p q i m) (idle_turn p q i m))
