-- What an inspection does to the interrupt side: it answers "raised" exactly where it has raised one, of its own kind and port.
--   Interrupts, inspection_irq   an inspection that raised an interrupt, and one that left the interrupt side as it was
-- In proofs/laws/Interrupt, since they rest on these: inspection_irq.
-- Not here: what raising one does, in interrupt; which service raises one, in input and output.
-- Assumes nothing.
use Rattle.std.specs.Prelude.{◌≡◌, true, false}
use Rattle.interrupt.specs.declared.Service.{Service}
use Rattle.interrupt.specs.Interrupt.{raised}
use Rattle.unit.specs.declared.mux.Mux.{Mux}
use Rattle.unit.specs.declared.reply.Turn.TheVariants.{Served}
use Rattle.unit.specs.Record.{address_at}
use Rattle.unit.specs.Reply.{Looked}

-- what an inspection of the unit u left: an interrupt that the service k of the port at the position raised, with that port's address; or nothing of the kind
pub data Interrupts (u : Mux) (l : Looked) : Type 0 where
  raises : (k : Service) → l.reply.answer.turn ≡ Served k → l.reply.answer.port ≡ u.pos → l.reply.answer.raised ≡ true → l.world.mux.irq ≡ raised u.setting.kind k (address_at u.setting u.pos) u.irq → Interrupts u l
  silent : l.reply.answer.raised ≡ false → l.world.mux.irq ≡ u.irq → Interrupts u l
