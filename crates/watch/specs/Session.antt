-- The session to watch: its unit, what its host writes, and the record and the memory after each part of it.
--   three, place_of            its unit, of a kind and with a set of special codes; where a word of a port's control block lies
--   with_word, control_word     a word of a port's control block written; OCW for port control
--   control_put .. output_put   what the host writes, in the session's order
--   looking                   what one thing asked of the unit answers and leaves
--   after, wrote              the world after one thing asked of the unit, and after the host's writes
--   turned .. keyed_three      the world after what the session does again and again
--   set_up .. session          the world after each part, in the session's order
--   piled .. mighty           the session at a Mighty Mux
--   Lent .. after_sweeps       the memory and the list that the sweeps at the end are lent, and what they leave there
-- Not here: what one call does, in Calls of the crate calls; what is printed, which the stored output holds;
-- what follows, in laws/.
-- Assumes nothing.
use Rattle.std.specs.Prelude.{Bool, false, List, ℕ, ◌+◌, ◌%◌, set, replicate}
use Rattle.words.specs.Field.{put}
use Rattle.words.specs.Codes.{at_icw, at_ocw, at_ibp, at_obp, at_lib, at_lob, INMO, in_echo, ASCII, OUTMO, out_auto, out_control, DEVICE-CONTROL, CHARACTER}
use Rattle.words.specs.Byte.{store_byte}
use Rattle.words.specs.Special.{set1974}
use Rattle.interrupt.specs.declared.Kind.{Kind}
use Rattle.interrupt.specs.declared.Kind.TheVariants.{Eds8, MightyMux}
use Rattle.unit.specs.declared.mux.Setting.{Setting}
use Rattle.unit.specs.declared.mux.Mux.{Mux}
use Rattle.unit.specs.Record.{no_mux, block_at}
use Rattle.unit.specs.Reply.{Reply, World, world, Looked, Outcome}
use Rattle.unit.specs.Refusals.{MOST-INSPECTIONS}
use Rattle.unit.specs.Setup.{setup}
use Rattle.lines.specs.declared.signal.Signal.TheVariants.{Arrival, TransmitterEmpty}
use Rattle.processor.specs.declared.orders.Order.TheVariants.{Iopls, Doc, Dias, Tick}
use Rattle.sweep.specs.Sweep.{sweep}
use Rattle.calls.specs.declared.call.Act.{Act}
use Rattle.calls.specs.declared.call.Act.TheVariants.{Line, Processor, Inspect}
use Rattle.calls.specs.Calls as Calls
use Rattle.calls.specs.Calls.{performed}

-- ---- the unit

-- three ports with blocks of 8 words from word 256 on, where either kind may have them
abbrev pub three : Kind → List Bool → Setting
three kind codes = record { kind = kind; block = 8; ports = 3; base = 256; special = codes }

-- where word k of port p's control block lies, whatever the kind and the set
unfoldable pub place_of : ℕ → ℕ → ℕ
place_of p k = block_at (three Eds8 (replicate 128 false)) (p % 3) + k

-- ---- what the host writes into its memory

-- a word in its place of port p's control block
unfoldable pub with_word : ℕ → ℕ → ℕ → List ℕ → List ℕ
with_word p k word m = set m (place_of p k) word

-- OCW for port control: Device Control 1, control bits octal 67
unfoldable pub control_word : ℕ
control_word = put CHARACTER 0o67 (put DEVICE-CONTROL 1 (put OUTMO out_control 0))

-- port control at each port
unfoldable pub control_put : List ℕ → List ℕ
control_put m = with_word 2 at_ocw control_word (with_word 1 at_ocw control_word (with_word 0 at_ocw control_word m))

-- port 0 is asked for automatic input with echo, in 7-bit ASCII mode
unfoldable pub input_asked : List ℕ → List ℕ
input_asked m = with_word 0 at_icw (put ASCII 1 (put INMO in_echo 0)) m

-- port 0: input from byte 2001 to byte 2006; port 1: single mode, which is 0
unfoldable pub input_put : List ℕ → List ℕ
input_put m = with_word 1 at_icw 0 (with_word 0 at_lib 2006 (with_word 0 at_ibp 2000 (input_asked m)))

-- bytes 3000 to 3004: aloha, as ASCII
unfoldable pub greeting_put : List ℕ → List ℕ
greeting_put m = store_byte (store_byte (store_byte (store_byte (store_byte m 3000 97) 3001 108) 3002 111) 3003 104) 3004 97

-- port 2: automatic output of bytes 3000 to 3004
unfoldable pub output_put : List ℕ → List ℕ
output_put m = with_word 2 at_ocw (put OUTMO out_auto 0) (with_word 2 at_lob 3004 (with_word 2 at_obp 2999 (greeting_put m)))

-- ---- the session

-- what one thing asked of the unit answers, and the world after it
abbrev pub looking : Reply → World → Looked
looking r w = record { reply = r; world = w }

-- the world after one thing asked of the unit
abbrev pub after : Act → World → World
after a w = (performed w a).world

-- the world after the host's writes
abbrev pub wrote : (List ℕ → List ℕ) → World → World
wrote f w = world w.mux (f w.memory)

-- an inspection; the processor takes the status by DIAS, and the transmitter of the port inspected runs empty
unfoldable pub turned : World → World
turned w = after (Line w.mux.pos TransmitterEmpty) (after (Processor Dias) (after Inspect w))

-- a rotation: so at each of the three ports
unfoldable pub rotated : World → World
rotated w = turned (turned (turned w))

-- a character typed at port p, with no marks
unfoldable pub typed : ℕ → ℕ → World → World
typed p b w = after (Line p (Arrival b false false)) w

-- a character typed at port 0, and a rotation
unfoldable pub keyed : ℕ → World → World
keyed b w = rotated (typed 0 b w)

-- three of them
unfoldable pub keyed_three : ℕ → ℕ → ℕ → World → World
keyed_three a b c w = keyed c (keyed b (keyed a w))

-- a new unit of three ports, of that kind and with that set, on the memory
unfoldable pub set_up : Kind → List Bool → List ℕ → World
set_up kind codes m = world (Calls.set_up no_mux (setup (three kind codes))).mux m

-- it runs
unfoldable pub began : Kind → List Bool → List ℕ → World
began kind codes m = after (Processor Doc) (set_up kind codes m)

-- port control at each port, and then the control blocks of the session
unfoldable pub prepared : World → World
prepared w = wrote output_put (wrote input_put (rotated (wrote control_put w)))

-- both, on the memory, at an EDS-8
unfoldable pub opened : List Bool → List ℕ → World
opened codes m = prepared (began Eds8 codes m)

-- x typed at port 1; then p, u and the glottal stop, octal 174, keyed at port 0
unfoldable pub first_half : World → World
first_half w = keyed_three 112 117 0o174 (typed 1 120 w)

-- the whole session on the memory, at a unit with that set: after the first half the host asks for input again, and u, k and u are keyed
unfoldable pub session : List Bool → List ℕ → World
session codes m = keyed_three 117 107 117 (wrote input_asked (first_half (opened codes m)))

-- ---- the session at a Mighty Mux

-- port control at each port, and an inspection of each, with nobody to read the status
unfoldable pub piled : World → World
piled w = after Inspect (after Inspect (after Inspect (wrote control_put w)))

-- a tick of the clock, which is on
unfoldable pub ticked : World → World
ticked w = after (Processor Tick) (after (Processor Iopls) w)

-- DIAS, twice
unfoldable pub read_twice : World → World
read_twice w = after (Processor Dias) (after (Processor Dias) w)

-- a Mighty Mux on the memory in which three interrupts and a tick wait to be read
unfoldable pub waiting : List ℕ → World
waiting m = ticked (piled (began MightyMux set1974 m))

-- they are read, with one DIAS more than there are entries
unfoldable pub mighty : List ℕ → World
mighty m = read_twice (read_twice (waiting m))

-- ---- the sweeps at the end

-- the memory and the list that a sweep is lent
pub record Lent : Type 0 where
  pub memory : List ℕ
  pub list : List ℕ

abbrev pub lent : List ℕ → List ℕ → Lent
lent m xs = record { memory = m; list = xs }

-- what a call leaves in them; the record that it gives back is dropped
abbrev pub lent_by : Outcome → Lent
lent_by o = lent o.world.memory o.list

-- what a sweep of n inspections of the unit leaves in them
unfoldable pub after_sweep : Mux → ℕ → Lent → Lent
after_sweep u n l = lent_by (sweep u l.memory n l.list)

-- a sweep of none, of the most and of one more, each of the same unit
unfoldable pub after_sweeps : Mux → Lent → Lent
after_sweeps u l = after_sweep u (MOST-INSPECTIONS + 1) (after_sweep u MOST-INSPECTIONS (after_sweep u 0 l))
