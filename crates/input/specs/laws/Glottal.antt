-- The glottal stop in 7-bit ASCII mode (document 01, Input 1, 4, 5 and 6; document 02, K5). It is sent as the vertical bar, octal 174, which is special in the
-- 1974 set, and ordinary in a set that a school may choose.
--   Automatic            7-bit ASCII automatic mode, INDONE clear as read
--   Told, Reported       a character reaches the host by ICW and one interrupt, and by nothing else
--   Bar, Apart, glottal_stop   so the glottal stop, if the set calls it special or it has an error, is reported once, as octal 374 with its error code, and
--                        never stored or echoed
--   glottal_stop_marked, marked_code   also where it replaced a held character: it has the overload code
--   Lettered, ordinary   any other code is stored once, its top bit 1, and ICW is left alone unless the character is done
--   Replaced, replaced   a character that finds INDONE set replaces the one in ICW, and bit 7 says that one was lost
-- In proofs/laws/Glottal, since they rest on these: special, with_error, glottal_stop, glottal_stop_marked, ordinary, glottal_stop_kept, replaced,
-- glottal_stop_lost.
-- Not here: a character in automatic mode, 7-bit ASCII or not, in Automatic; every other word and byte of the memory, in Kept; which codes are special, in words' Special; the glottal stop of an inspection, a
-- sweep and a call, in laws/Glottal of scan, sweep and door.
-- Assumes nothing.
use Rattle.std.specs.Prelude.{◌≡◌, Bool, true, false, List, ◌≢◌, ◌⊎◌, ℕ, ◌+◌, ◌/◌, ◌%◌, length, get_or}
use Rattle.std.proofs.Common.{◌∙◌, sym}
use Rattle.ground.specs.Choose.{pick}
use Rattle.words.specs.Field.{get}
use Rattle.words.specs.Codes.{at_icw, at_ibp, INDONE, INMO, ASCII, FLAGS, flag_none, flag_overload, NOT-ECHOED, SERVICE-OVERLOAD, CHARACTER, word_byte}
use Rattle.words.specs.Byte.{byte_at}
use Rattle.words.specs.Special.{special_in}
use Rattle.unit.specs.declared.mux.Port.{Port}
use Rattle.input.specs.Input.{error_code, ascii, input_service}
use Rattle.input.specs.laws.Kept.{icw_of, code_of, next_of, after}
use Rattle.input.specs.laws.Automatic.{Filling, Stored}

-- 7-bit ASCII automatic mode, with echo or without, and INDONE clear as read
pub record Automatic (m : List ℕ) (a : ℕ) : Type 0 where
  pub filling : Filling (icw_of m a)
  pub ascii : get ASCII (icw_of m a) ≡ 1

-- ---- an error and a special code

-- the memory n is m but for ICW of the block at the word a, which tells the host of one character: its byte b, done, with that error code and
-- no echo mark; the other bits of ICW are kept
pub record Told (m n : List ℕ) (a code b : ℕ) : Type 0 where
  pub character : get CHARACTER (icw_of n a) ≡ b
  pub done : get INDONE (icw_of n a) ≡ 1
  pub flags : get FLAGS (icw_of n a) ≡ code
  pub no-mark : get NOT-ECHOED (icw_of n a) ≡ 0
  pub same_ascii : get ASCII (icw_of n a) ≡ get ASCII (icw_of m a)
  pub same_mode : get INMO (icw_of n a) ≡ get INMO (icw_of m a)
  pub same_overload : get SERVICE-OVERLOAD (icw_of n a) ≡ get SERVICE-OVERLOAD (icw_of m a)
  pub same_pointer : get_or n (a + at_ibp) 0 ≡ get_or m (a + at_ibp) 0
  pub same_words : (k : ℕ) → k ≢ a + at_icw → get_or n k 0 ≡ get_or m k 0
  pub same_length : length n ≡ length m

-- the character reaches the host by ICW and one interrupt alone: with no echo and nothing stored
pub record Reported (codes : List Bool) (m : List ℕ) (a : ℕ) (q : Port) (code b : ℕ) : Type 0 where
  pub one_interrupt : (input_service codes m a q).effect.raised ≡ true
  pub no_echo : (input_service codes m a q).effect.sent ≡ false
  pub told : Told m (after codes m a q) a code b

-- the port's character is the glottal stop, low seven bits octal 174, and has that error code
pub record Bar (q : Port) (code : ℕ) : Type 0 where
  pub bar : q.ch.byte % 128 ≡ 0o174
  pub coded : code_of q ≡ code

-- the unit's set calls it special, or it has an error: either keeps it from the buffer
abbrev pub Apart : List Bool → ℕ → Type 0
Apart codes code = (special_in codes 0o174 ≡ true) ⊎ (code ≢ flag_none)

-- a glottal stop that replaced a held character carries the mark
pub bar_marked : (q : Port) → q.ch.byte % 128 ≡ 0o174 → q.ch.overload ≡ true → Bar q flag_overload
unfolding error_code pick
bar_marked q e o = record { bar = e; coded = rw o }

-- so the mark decides the code
pub marked_code : (q : Port) (code : ℕ) → Bar q code → q.ch.overload ≡ true → code ≡ flag_overload
marked_code q code k o = sym k.coded ∙ (bar_marked q k.bar o).coded

-- ---- an ordinary code

-- the character is kept with its word: its byte b is at the next place of the buffer, and every byte outside ICW and IBP is as it was but that one, so
-- that it stands once, after what came before it. IBP, the interrupt, the echo and ICW are as of any stored character
pub record Lettered (codes : List Bool) (m : List ℕ) (a : ℕ) (q : Port) (b : ℕ) : Type 0 where
  pub there : byte_at (after codes m a q) (next_of m a) ≡ b
  pub once : (x : ℕ) → x / 2 ≢ a + at_icw → x / 2 ≢ a + at_ibp → x ≢ next_of m a → byte_at (after codes m a q) x ≡ byte_at m x
  pub stored : Stored codes m a q

-- ---- a character that comes while INDONE is set

-- the character took the place of the one in ICW, and the word says that one was lost; no interrupt, and nothing else changes
pub record Replaced (codes : List Bool) (m : List ℕ) (a : ℕ) (q : Port) : Type 0 where
  pub no_interrupt : (input_service codes m a q).effect.raised ≡ false
  pub no_echo : (input_service codes m a q).effect.sent ≡ false
  pub character : get CHARACTER (icw_of (after codes m a q) a) ≡ word_byte (ascii (icw_of m a)) q.ch.byte
  pub lost_one : get SERVICE-OVERLOAD (icw_of (after codes m a q) a) ≡ 1
  pub flags : get FLAGS (icw_of (after codes m a q) a) ≡ code_of q
  pub still_done : get INDONE (icw_of (after codes m a q) a) ≡ 1
  pub same_words : (k : ℕ) → k ≢ a + at_icw → get_or (after codes m a q) k 0 ≡ get_or m k 0
