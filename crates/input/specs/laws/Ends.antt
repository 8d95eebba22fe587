-- A buffer of automatic input ends (document 02, K2).
--   buffer_of                   ICW, IBP and LIB of a port
--   Beside                     a byte on none of these three words
--                              jump to 0, and LIB − IBP one less
--   Visit, found, leaves       an input service, with the memory and the port that it finds; the three words that it finds and leaves
--   Open, open_edges, Done     automatic mode with INDONE clear, and a buffer of bytes that are beside, but for its last; INDONE set
--   same_service               by the rule as it was: the same where IBP + 1 is below LIB or equal to it
--   short ..                   IBP 2003 with LIB 2003: one service ends it, and by the rule as it was it ran on
-- In proofs/laws/Ends, since they rest on these: quiet, next_below, steps, serves, input_ends, first_ends, from_top, short_ends.
-- Not here: services one after the other, and the count, in words, laws/Buffer; when the end is reached, in words, laws/Pointer; the service by any
-- rule for the end, in Rules.
-- Assumes nothing.
use Rattle.std.specs.Prelude.{◌≡◌, Bool, List, ◌≢◌, ℕ, ◌+◌, ◌/◌, ◌<◌, ◌≤◌, get_or, set, replicate}
use Rattle.std.proofs.Common.{◌∙◌, inl, inr, arith, lit<, lit≤}
use Rattle.std.proofs.Math.Path.{refl}
use Rattle.std.proofs.Math.Bool.{true, false}
use Rattle.ground.specs.Choose.{pick, bit}
use Rattle.words.specs.Field.{get, put}
use Rattle.words.specs.Codes.{at_icw, at_ibp, at_lib, INDONE, stored_byte}
use Rattle.words.specs.laws.Pointer.{at_end_was, as_before}
use Rattle.words.specs.laws.Buffer.{Buffer}
use Rattle.words.specs.Byte.{half_at, store_byte, word_if, byte_if}
use Rattle.words.specs.Special.{is_special, set1974, special_in}
use Rattle.unit.specs.declared.mux.Port.{Port}
use Rattle.unit.specs.laws.Sound.{Placed}
use Rattle.input.specs.Input.{error_code, ascii, stored_plan, input_plan, carried, input_service}
use Rattle.input.specs.laws.Kept.{after}
use Rattle.input.specs.laws.Automatic.{Filling}
use Rattle.input.specs.laws.Rules.{input_by, by_the_rules}

-- ICW, IBP and LIB of the port whose block starts at the word a
abbrev pub buffer_of : List ℕ → ℕ → Buffer
buffer_of m a = record { control = get_or m (a + at_icw) 0; pointer = get_or m (a + at_ibp) 0; end = get_or m (a + at_lib) 0 }

-- ---- one service

-- the byte at the pointer x lies on none of the port's ICW, IBP and LIB words
pub record Beside (a x : ℕ) : Type 0 where
  pub icw : x / 2 ≢ a + at_icw
  pub ibp : x / 2 ≢ a + at_ibp
  pub lib : x / 2 ≢ a + at_lib

-- ---- services one after the other

-- an input service of the port whose block starts at the word a: the unit's set of special codes, the memory that it finds, of 32,768 words, and the
-- port with a character
pub record Visit (a : ℕ) : Type 0 where
  pub codes : List Bool
  pub memory : List ℕ
  pub port : Port
  pub placed : Placed memory a
  pub byte : port.ch.byte < 256

-- the buffer that it finds, and the one that it leaves
abbrev pub found : (a : ℕ) → Visit a → Buffer
found a v = buffer_of v.memory a

abbrev pub leaves : (a : ℕ) → Visit a → Buffer
leaves a v = buffer_of (after v.codes v.memory a v.port) a

-- INDONE is set
abbrev pub Done : Buffer → Type 0
Done b = get INDONE b.control ≡ 1

-- automatic mode, with echo or without, and INDONE clear; LIB is a word, and the bytes after IBP and before LIB lie on none of ICW, IBP and LIB.
-- The byte at LIB may: ICW is written after it
pub record Open (a : ℕ) (b : Buffer) : Type 0 where
  pub filling : Filling b.control
  pub word : b.end < 65536
  pub beside : (x : ℕ) → b.pointer < x → x < b.end → Beside a x

-- so a buffer of two bytes is open whose last is the left half of its own ICW, the word 64; and one that begins after its own LIB, the word 70,
-- and goes to the end of the memory
pub open_edges : Open 64 (record { control = 0o40000; pointer = 126; end = 128 }) × Open 64 (record { control = 0o60000; pointer = 141; end = 65535 })
unfolding get
open_edges = (
  record {
    filling = record { clear = refl; mode = inl refl };
    word = lit< tt;
    beside = λ x h k. record { icw = λ e. omega (arith, h, k, e); ibp = λ e. omega (arith, h, k, e); lib = λ e. omega (arith, h, k, e) };
  },
  record {
    filling = record { clear = refl; mode = inr refl };
    word = lit< tt;
    beside = λ x h k. record { icw = λ e. omega (arith, h, k, e); ibp = λ e. omega (arith, h, k, e); lib = λ e. omega (arith, h, k, e) };
  },
)

-- ---- the rule as it was

-- where IBP + 1 is below LIB or equal to it, it is the service by the rule before K2
pub same_service : (codes : List Bool) (m : List ℕ) (a : ℕ) (q : Port) → (buffer_of m a).end < 65536 → (buffer_of m a).pointer + 1 ≤ (buffer_of m a).end → input_service codes m a q ≡ input_by at_end_was (special_in codes) m a q
unfolding input_by
same_service codes m a q word h = by_the_rules codes m a q ∙ rw (as_before (buffer_of m a).pointer (buffer_of m a).end word h)

-- IBP 2003 with LIB 2003 in a block at word 64: a character of code 255 with no error, in automatic mode
abbrev pub short : Visit 64
short =
    record {
      codes = set1974;
      memory = set (set (set (replicate 32768 0) 64 0o40000) 68 2003) 70 2003;
      port = record { held = true; ch = record { byte = 255; parity = false; brk = false; overload = false }; empty = true; control = 0; devcontrol = true; devstatus = false };
      placed = record { words = refl; inside = lit≤ tt };
      byte = lit< tt;
    }

-- the buffer is open, and its room is one service: that one ends it
pub short_open : Open 64 (found 64 short)
unfolding get
short_open =
    record {
      filling = record { clear = refl; mode = inl refl };
      word = lit< tt;
      beside = λ x h k. absurd (omega (arith, h, k));
    }

-- by the rule as it was INDONE was clear after it, and IBP past LIB
pub short_ran_on : buffer_of (input_by at_end_was is_special short.memory 64 short.port).memory 64 ≡ record { control = 0o40000; pointer = 2004; end = 2003 }
unfolding input_by at_end_was input_plan carried error_code ascii stored_plan get put stored_byte word_if byte_if store_byte half_at pick bit is_special
short_ran_on = refl
