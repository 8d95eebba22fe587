-- Yes-or-no tests of a single thing in the world that it meets, for whoever counts.
--   turn_at, service_at, input_at, output_at   port p's turn, and one that goes to a service, by what is answered
--   unrefused, is_arrival, brings_to, is_clear   what the next tests are made of: not refused; an arrival at port p; a reset or a setup
--   takes_at                                a character that port p takes
--   holds_at                                of the world alone: port p holds a character
--   replaces_at, drops_at                    a held character that another replaces; one that a reset or a new setup drops
-- Not here: inspections that count, in calls, Events; where each test is true, in Waiting, Tests.
-- Assumes nothing.
use Rattle.std.specs.Prelude.{Bool, true, false, ◌&&◌, ℕ, eqb}
use Rattle.interrupt.specs.declared.Service.{Service}
use Rattle.interrupt.specs.declared.Service.TheVariants.{Input, Output}
use Rattle.unit.specs.declared.reply.Turn.TheVariants.{Served}
use Rattle.unit.specs.Record.{port_at}
use Rattle.unit.specs.Reply.{turn_number, World}
use Rattle.lines.specs.declared.signal.Signal.{Signal}
use Rattle.lines.specs.declared.signal.Signal.TheVariants.{Arrival, TransmitterEmpty, DeviceStatus}
use Rattle.processor.specs.Processor.{is_reset}
use Rattle.calls.specs.declared.call.Act.TheVariants.{Line, Processor, Inspect}
use Rattle.calls.specs.Events.{Single, sets_up, does, writes, result, counted}

-- ---- by what it answers

-- port p's turn
unfoldable pub turn_at : ℕ → World → Single → Bool
turn_at p w a = counted w a && eqb (result w a).reply.answer.port p

-- port p's turn that goes to a service
unfoldable pub service_at : Service → ℕ → World → Single → Bool
service_at k p w a = eqb (turn_number (result w a).reply.answer.turn) (turn_number (Served k)) && eqb (result w a).reply.answer.port p

-- port p's turn that goes to input, and one that goes to output
abbrev pub input_at : ℕ → World → Single → Bool
input_at p w a = service_at Input p w a

abbrev pub output_at : ℕ → World → Single → Bool
output_at p w a = service_at Output p w a

-- ---- by what is asked, and that it is not refused

-- it is not refused
unfoldable pub unrefused : World → Single → Bool
unrefused w a = eqb (result w a).reply.code 0

-- an arrival, of the signals
unfoldable pub is_arrival : Signal → Bool
is_arrival (Arrival c parity brk) = true
is_arrival TransmitterEmpty = false
is_arrival (DeviceStatus level) = false

-- an arrival at port p, refused or not
unfoldable pub brings_to : ℕ → Single → Bool
brings_to p (sets_up s) = false
brings_to p (does (Line q e)) = eqb q p && is_arrival e
brings_to p (does (Processor o)) = false
brings_to p (does Inspect) = false
brings_to p (writes m) = false

-- a reset or a setup, refused or not
unfoldable pub is_clear : Single → Bool
is_clear (sets_up s) = true
is_clear (does (Line q e)) = false
is_clear (does (Processor o)) = is_reset o
is_clear (does Inspect) = false
is_clear (writes m) = false

-- an arrival at port p that is not refused
unfoldable pub takes_at : ℕ → World → Single → Bool
takes_at p w a = brings_to p a && unrefused w a

-- port p holds a character
abbrev pub holds_at : ℕ → World → Bool
holds_at p w = (port_at w.mux p).held

-- a character that port p takes in the place of one that it holds
unfoldable pub replaces_at : ℕ → World → Single → Bool
replaces_at p w a = takes_at p w a && holds_at p w

-- a reset or a new setup that drops the character that port p holds
unfoldable pub drops_at : ℕ → World → Single → Bool
drops_at p w a = (is_clear a && unrefused w a) && holds_at p w
