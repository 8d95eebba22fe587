-- A buffer of automatic output ends (document 02, K2).
--   buffer_of, Sending          OCW, OBP and LOB of a port; automatic mode with OUTDONE clear
--   last_of                     whether the buffer ends with its next byte
--   ocw_after                  OCW after a service
--   Visit, found, leaves       an output service, with the memory and the port that it finds; the three words that it finds and leaves
--   Open, open_edge, Done      automatic mode with OUTDONE clear, LOB a word; OUTDONE set
--   short ..                   OBP 2003 with LOB 2003: one service ends it, and by the rule as it was it ran on
-- In proofs/laws/Ends, since they rest on these: raises, next_below, obp_after, steps, serves, output_ends, first_ends, from_top, same_service, short_ends.
-- Not here: services one after the other, and the count, in words, laws/Buffer; when the end is reached, in words, laws/Pointer; the service by any rule for the end, in Rules; an input of
-- the same port that lies on LOB, in calls, Examples.
-- Assumes nothing.
use Rattle.std.specs.Prelude.{◌≡◌, refl, Bool, List, ℕ, ◌+◌, ◌<◌, get_or, set, replicate}
use Rattle.std.proofs.Common.{arith, lit<, lit≤, get_or-set_same}
use Rattle.ground.specs.Choose.{pick, bit}
use Rattle.words.specs.Field.{get, put}
use Rattle.words.specs.Codes.{at_ocw, at_obp, at_lob, OUTDONE, OUTMO, out_auto}
use Rattle.words.specs.Pointer.{at_end}
use Rattle.words.specs.laws.Pointer.{at_end_was}
use Rattle.words.specs.laws.Buffer.{Buffer}
use Rattle.words.specs.Byte.{half_at, byte_at, word_if}
use Rattle.words.specs.laws.Byte.{length_word_if}
use Rattle.words.specs.Special.{is_special, set1974}
use Rattle.unit.specs.declared.mux.Port.{Port}
use Rattle.unit.specs.Record.{fresh_port}
use Rattle.unit.specs.laws.Sound.{Placed}
use Rattle.output.specs.Output.{out_done, is_auto, auto_plan, output_plan, differs, status_bits, becomes_changed, written_ocw, output_service}
use Rattle.output.specs.laws.Kept.{after, stepped}
use Rattle.output.specs.laws.Rules.{ocw_of, output_by}

-- OCW, OBP and LOB of the port whose block starts at the word a
abbrev pub buffer_of : List ℕ → ℕ → Buffer
buffer_of m a = record { control = get_or m (a + at_ocw) 0; pointer = get_or m (a + at_obp) 0; end = get_or m (a + at_lob) 0 }

-- OCW asks for automatic output, and OUTDONE is clear
pub record Sending (ocw : ℕ) : Type 0 where
  pub clear : get OUTDONE ocw ≡ 0
  pub mode : get OUTMO ocw ≡ out_auto

-- ---- one service

-- whether the buffer ends with its next byte
abbrev pub last_of : List ℕ → ℕ → Bool
last_of m a = at_end (buffer_of m a).pointer (buffer_of m a).end

-- OCW after any service
pub ocw_after : (codes : List Bool) (m : List ℕ) (a : ℕ) (q : Port) → Placed m a → get_or (after codes m a q) (a + at_ocw) 0 ≡ written_ocw (ocw_of m a) q.devstatus (output_service codes m a q).effect.raised
unfolding output_service stepped
ocw_after codes m a q h = get_or-set_same (stepped m a) (a + at_ocw) _ 0 (rw length_word_if (omega (arith, h.words, h.inside)))

-- ---- services one after the other

-- an output service of the port whose block starts at the word a: the unit's set of special codes, the memory that it finds, of 32,768 words, and the port
pub record Visit (a : ℕ) : Type 0 where
  pub codes : List Bool
  pub memory : List ℕ
  pub port : Port
  pub placed : Placed memory a

-- the buffer that it finds, and the one that it leaves
abbrev pub found : (a : ℕ) → Visit a → Buffer
found a v = buffer_of v.memory a

abbrev pub leaves : (a : ℕ) → Visit a → Buffer
leaves a v = buffer_of (after v.codes v.memory a v.port) a

-- OUTDONE is set
abbrev pub Done : Buffer → Type 0
Done b = get OUTDONE b.control ≡ 1

-- automatic output with OUTDONE clear, and LOB a word. Where the bytes lie is not asked: an output service stores none
pub record Open (b : Buffer) : Type 0 where
  pub sending : Sending b.control
  pub word : b.end < 65536

-- so is a buffer whose last byte is the last of the memory
pub open_edge : Open (record { control = 0o20000; pointer = 65533; end = 65535 })
unfolding get
open_edge = record { sending = record { clear = refl; mode = refl }; word = lit< tt }

-- ---- the rule as it was

-- OBP 2003 with LOB 2003 in a block at word 64, in automatic mode
abbrev pub short : Visit 64
short =
    record {
      codes = set1974;
      memory = set (set (set (replicate 32768 0) 65 0o20000) 69 2003) 71 2003;
      port = fresh_port;
      placed = record { words = refl; inside = lit≤ tt };
    }

-- the buffer is open, and its room is one service: that one ends it
pub short_open : Open (found 64 short)
unfolding get
short_open = record { sending = record { clear = refl; mode = refl }; word = lit< tt }

-- by the rule as it was OUTDONE was clear after it, and OBP past LOB
pub short_ran_on : buffer_of (output_by at_end_was is_special short.memory 64 short.port).memory 64 ≡ record { control = 0o20000; pointer = 2004; end = 2003 }
unfolding output_by at_end_was stepped output_plan out_done is_auto auto_plan differs status_bits becomes_changed written_ocw get put byte_at half_at word_if pick bit is_special
short_ran_on = refl
