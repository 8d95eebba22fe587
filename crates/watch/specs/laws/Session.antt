-- What follows from the session's definitions.
--   fits            setup takes its setting
--   parts           every definition that the session computes with, named once
--   special_apart   on a memory of zeros, by the 1974 set: the glottal stop stands in ICW
--   word_stored     and at the end the letters stand in the buffer, without it
--   name_kept       by the dictionary's set: the glottal stop stands in the buffer, between the letter before it and the letter after it, and ICW tells of the
--                   last letter, which fills the buffer
--   stack_read      at a Mighty Mux: what the four DIAS read, and that nothing is left
-- Not here: what a setting that fits is, in unit, Sound; the glottal stop on any memory, in input, laws/Glottal.
-- Assumes nothing.
use Rattle.std.specs.Prelude.{◌≡◌, refl, Bool, List, [], ◌∷◌, map, ℕ, ◌+◌, get_or}
use Rattle.std.proofs.Common.{arith}
use Rattle.words.specs.Field.{get}
use Rattle.words.specs.Codes.{at_icw, CHARACTER}
use Rattle.words.specs.Byte.{byte_at}
use Rattle.words.specs.Special.{set1974, dictionary_set}
use Rattle.interrupt.specs.declared.Kind.{Kind}
use Rattle.interrupt.specs.Interrupt as Interrupt
use Rattle.unit.specs.Reply.{World}
use Rattle.unit.specs.Sound.{eight, Fits}
use Rattle.processor.specs.declared.orders.Order.TheVariants.{Dias}
use Rattle.calls.specs.declared.call.Act.TheVariants.{Processor}
use Rattle.calls.specs.Calls.{performed}
use Rattle.calls.specs.Examples.{clear}
use Rattle.calls.specs.laws.Examples.{everything}
use Rattle.watch.specs.Session.{three, place_of, with_word, control_word, control_put, input_asked, input_put, greeting_put, output_put, turned, rotated, typed, keyed, keyed_three, set_up, began, prepared, opened, first_half, session, after, piled, ticked, read_twice, waiting, mighty}

-- setup takes the session's setting
pub fits : (kind : Kind) (codes : List Bool) → Fits (three kind codes)
fits kind codes =
    record {
      size = record { block = eight refl; some_port = omega arith; few_ports = omega arith };
      base = record { aligned = refl; low = omega arith; located = λ _. refl };
      area = record { one = refl };
    }

-- every definition that the session computes with: to unfold this is to unfold them all
unfoldable parts : Unit {0}
unfolding everything place_of with_word control_word control_put input_asked input_put greeting_put output_put turned rotated typed keyed keyed_three set_up began prepared opened first_half session piled ticked read_twice waiting mighty
parts = tt

-- after the first half of the word the glottal stop stands in ICW of port 0, octal 174 with the top bit
pub special_apart : get CHARACTER (get_or (first_half (opened set1974 clear)).memory (place_of 0 at_icw) 0) ≡ 0o374
unfolding parts
special_apart = refl

-- at the end the buffer has p, u, u, k and u from byte 2001 on, each with the top bit, and no glottal stop
pub word_stored : map (byte_at (session set1974 clear).memory) (2001 ∷ 2002 ∷ 2003 ∷ 2004 ∷ 2005 ∷ []) ≡ map (◌+◌ 128) (112 ∷ 117 ∷ 117 ∷ 107 ∷ 117 ∷ [])
unfolding parts
word_stored = refl

-- with the dictionary's set it has the whole name, p, u, the glottal stop, u, k and u, each once and with the top bit; ICW says u, done: the buffer is full
pub name_kept : (map (byte_at (session dictionary_set clear).memory) (2001 ∷ 2002 ∷ 2003 ∷ 2004 ∷ 2005 ∷ 2006 ∷ []) ≡ map (◌+◌ 128) (112 ∷ 117 ∷ 0o174 ∷ 117 ∷ 107 ∷ 117 ∷ [])) × (get_or (session dictionary_set clear).memory (place_of 0 at_icw) 0 ≡ 0o170365)
unfolding parts
name_kept = (refl, refl)

-- what DIAS reads
abbrev reads : World → ℕ
reads w = (performed w (Processor Dias)).reply.value

-- before the first DIAS, and after it
abbrev waits : World
waits = waiting clear

abbrev once : World
once = after (Processor Dias) waits

-- at a Mighty Mux the three interrupts are read in their order, the first with the clock's bit; then nothing is left
pub stack_read : (reads waits ∷ reads once ∷ reads (read_twice waits) ∷ reads (read_twice once) ∷ [] ≡ 37888 ∷ 5152 ∷ 5184 ∷ 0 ∷ []) × ((mighty clear).mux.irq ≡ Interrupt.fresh)
unfolding parts
stack_read = (refl, refl)
