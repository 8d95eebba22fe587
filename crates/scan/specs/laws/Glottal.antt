-- The glottal stop at an inspection (document 01, one inspection, and Input 4, 5 and 6; document 02, K5): the laws of input, carried to the record.
--   Waits         the port whose turn it is holds the glottal stop, in 7-bit ASCII automatic mode with INDONE clear
--   Delivered     what the host and the record have of it afterwards
--   Typed, glottal_typed  if the set calls it ordinary and it has no error, it is kept with its word, as a letter is
-- In proofs/laws/Glottal, since they rest on these: glottal_seen, glottal_seen_marked, glottal_typed.
-- Not here: the service itself, in laws/Glottal of input; a sweep and a call that inspect, in laws/Glottal of sweep and of door.
-- Assumes nothing.
use Rattle.std.specs.Prelude.{◌≡◌, true, false, not, ◌&&◌, List, ℕ, eqb, length}
use Rattle.interrupt.specs.declared.Service.TheVariants.{Input}
use Rattle.interrupt.specs.Interrupt.{raised}
use Rattle.unit.specs.declared.mux.Mux.{Mux}
use Rattle.unit.specs.declared.reply.Turn.TheVariants.{Served}
use Rattle.unit.specs.Record.{port_at, block_at, address_at}
use Rattle.unit.specs.Reply.{Looked}
use Rattle.unit.specs.Refusals.{WORDS}
use Rattle.unit.specs.Sound.{Sound}
use Rattle.words.specs.Field.{get}
use Rattle.words.specs.Codes.{INMO, in_echo}
use Rattle.input.specs.laws.Kept.{icw_of, after}
use Rattle.input.specs.laws.Automatic.{done_of}
use Rattle.input.specs.laws.Glottal.{Automatic, Told, Bar, Lettered}
use Rattle.scan.specs.Turn.{irq_after}
use Rattle.scan.specs.laws.Scan.{Moves}

-- a sound running unit with 32,768 words is at port p, which holds the glottal stop with that error code; the port's mode is 7-bit ASCII
-- automatic, with echo or without, and INDONE is clear
pub record Waits (u : Mux) (m : List ℕ) (p code : ℕ) : Type 0 where
  pub sound : Sound u
  pub runs : u.runs ≡ true
  pub words : length m ≡ WORDS
  pub turn : u.pos ≡ p
  pub held : (port_at u p).held ≡ true
  pub bar : Bar (port_at u p) code
  pub mode : Automatic m (block_at u.setting p)

-- the input of port p was served and named; no byte was handed over, and one interrupt was raised, which has the port's address. ICW of its
-- block says octal 374, done, with the error code, and every other word is as it was. The port holds nothing, and its transmitter is as it
-- was. The position is one on, and every other port is as it was (`Moves`).
pub record Delivered (u : Mux) (m : List ℕ) (p code : ℕ) (l : Looked) : Type 0 where
  pub served : l.reply.answer.turn ≡ Served Input
  pub names : l.reply.answer.port ≡ p
  pub no_echo : l.reply.answer.sent ≡ false
  pub one_interrupt : l.reply.answer.raised ≡ true
  pub address : l.world.mux.irq ≡ raised u.setting.kind Input (address_at u.setting p) u.irq
  pub told : Told m l.world.memory (block_at u.setting p) code 0o374
  pub taken : (port_at l.world.mux p).held ≡ false
  pub transmitter : (port_at l.world.mux p).empty ≡ (port_at u p).empty
  pub moves : Moves u m l

-- ---- kept with its word

-- the input of port p was served and named. Its byte is in the buffer as octal 374, once, and IBP, the interrupt, the echo and ICW are as of any
-- letter (`Lettered`). The port holds nothing; the position is one on, and every other port is as it was (`Moves`).
pub record Typed (u : Mux) (m : List ℕ) (p : ℕ) (l : Looked) : Type 0 where
  pub served : l.reply.answer.turn ≡ Served Input
  pub names : l.reply.answer.port ≡ p
  pub echo : l.reply.answer.sent ≡ (eqb (get INMO (icw_of m (block_at u.setting p))) in_echo && (port_at u p).empty)
  pub interrupt : l.reply.answer.raised ≡ done_of m (block_at u.setting p) (port_at u p)
  pub irq : l.world.mux.irq ≡ irq_after u.setting p u.irq Input (done_of m (block_at u.setting p) (port_at u p))
  pub memory : l.world.memory ≡ after u.setting.special m (block_at u.setting p) (port_at u p)
  pub kept : Lettered u.setting.special m (block_at u.setting p) (port_at u p) 0o374
  pub taken : (port_at l.world.mux p).held ≡ false
  pub transmitter : (port_at l.world.mux p).empty ≡ ((port_at u p).empty && not l.reply.answer.sent)
  pub moves : Moves u m l
