-- What the lines do (document 01, of that name).
--   arrived_port, emptied_port, status_port   what each signal does to its port
--   signalled                              the port after any of them
--   line                                   the call, with its refusals
-- Not here: the cut to the port's length, in words, Length; what becomes of a held character, in input and scan; what follows, in
-- laws/Lines.
-- Assumes nothing.
use Rattle.std.specs.Prelude.{Bool, true, ℕ}
use Rattle.words.specs.Length.{cut}
use Rattle.unit.specs.declared.mux.Port.{Port}
use Rattle.unit.specs.declared.mux.Mux.{Mux}
use Rattle.unit.specs.Reply.{Replied}
use Rattle.unit.specs.Record.{port_at, with_port}
use Rattle.unit.specs.Reply.{accepted, guarded}
use Rattle.unit.specs.Refusals.{refusal, of_port}
use Rattle.lines.specs.declared.signal.Signal.{Signal}
use Rattle.lines.specs.declared.signal.Signal.TheVariants.{Arrival, TransmitterEmpty, DeviceStatus}

-- a character cut to the port's length is held, with its own parity and break marks; one that replaces a held one carries the overload mark
abbrev pub arrived_port : Port → ℕ → Bool → Bool → Port
arrived_port q c parity brk =
    record {
      held = true;
      ch = record { byte = cut q.control c; parity = parity; brk = brk; overload = q.held };
      empty = q.empty;
      control = q.control;
      devcontrol = q.devcontrol;
      devstatus = q.devstatus;
    }

-- the transmitter's buffer is empty
abbrev pub emptied_port : Port → Port
emptied_port q =
    record { held = q.held; ch = q.ch; empty = true; control = q.control; devcontrol = q.devcontrol; devstatus = q.devstatus }

-- the Device Status line has the level
abbrev pub status_port : Port → Bool → Port
status_port q level =
    record { held = q.held; ch = q.ch; empty = q.empty; control = q.control; devcontrol = q.devcontrol; devstatus = level }

-- the port after the signal
unfoldable pub signalled : Port → Signal → Port
signalled q (Arrival c parity brk) = arrived_port q c parity brk
signalled q TransmitterEmpty = emptied_port q
signalled q (DeviceStatus level) = status_port q level

-- a signal at port p of the record, in a stopped unit as well
unfoldable pub line : Mux → ℕ → Signal → Replied
line u p e = guarded (refusal (of_port u p)) u (accepted 0 (with_port u p (signalled (port_at u p) e)))
