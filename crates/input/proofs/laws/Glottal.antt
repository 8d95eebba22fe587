-- The glottal stop in 7-bit ASCII mode (document 01, Input 1, 4, 5 and 6; document 02, K5). It is sent as the vertical bar, octal 174, which is special in the
--   special, with_error  so does a special code, with an error or without, and any code with an error
--   Bar, Apart, glottal_stop   so the glottal stop, if the set calls it special or it has an error, is reported once, as octal 374 with its error code, and
--   glottal_stop_marked, marked_code   also where it replaced a held character: it has the overload code
--   Lettered, ordinary   any other code is stored once, its top bit 1, and ICW is left alone unless the character is done
--   glottal_stop_kept    so is the glottal stop, if the set calls it ordinary and it has no error
--   Replaced, replaced   a character that finds INDONE set replaces the one in ICW, and bit 7 says that one was lost
--   glottal_stop_lost    so a glottal stop that the host did not take in time is lost, and the loss is marked
-- Here, and not in specs/laws/Glottal, is what rests on other laws of specs/: an edit of a definition counts as refused where nothing in specs/ rests on the
-- law that it breaks.
-- Assumes nothing.
use Rattle.std.specs.Prelude.{◌≡◌, Bool, true, false, not, List, ◌≢◌, ℕ, ◌+◌, ◌/◌, ◌%◌, ◌<◌, eqb}
use Rattle.std.proofs.Common.{◌∙◌, sym, inl, inr, arith, lit<, ne_eqb}
use Rattle.std.proofs.Math.Path.{ap, refl}
use Rattle.std.proofs.Math.Bool.{or-true, and-false}
use Rattle.ground.specs.Choose.{pick}
use Rattle.ground.specs.laws.Rows.{pick_true}
use Rattle.words.specs.Field.{get}
use Rattle.words.specs.Codes.{at_icw, at_ibp, INDONE, INMO, ASCII, FLAGS, flag_none, flag_overload, NOT-ECHOED, SERVICE-OVERLOAD, CHARACTER, stored_byte, word_byte}
use Rattle.words.specs.laws.Codes.{word_fits}
use Rattle.words.specs.Byte.{word_if, byte_if}
use Rattle.words.specs.Special.{special_in}
use Rattle.words.specs.laws.Special.{seven_bits}
use Rattle.unit.specs.declared.mux.Port.{Port}
use Rattle.unit.specs.laws.Sound.{Placed}
use Rattle.input.specs.Plan.{Plan}
use Rattle.input.specs.Input.{ascii, replaced_plan, done_plan, input_plan, carried, input_service}
use Rattle.input.specs.laws.Word.{code_fits, done_character, done_mark, done_flags, done_ascii, done_mode, done_overload, done_done, replaced_character, replaced_overload, replaced_flags, replaced_done}
use Rattle.input.specs.laws.Kept.{icw_of, code_of, plan_of, next_of, after, kept_length, Unstored, indone_set, in_error, special_code}
use Rattle.input.proofs.laws.Kept.{kept_byte, kept_unstored}
use Rattle.input.specs.laws.Automatic.{apart, reported_plan, buffered_plan, automatic, written}
use Rattle.input.proofs.laws.Automatic.{stored}
use Rattle.input.specs.laws.Glottal.{Automatic, Reported, Bar, Apart, bar_marked, Lettered, Replaced}

-- the top bit becomes 1, in ICW and in the buffer
top_bit : (icw c : ℕ) → get ASCII icw ≡ 1 → (word_byte (ascii icw) c ≡ 128 + c % 128) × (stored_byte (ascii icw) c ≡ 128 + c % 128)
unfolding word_byte stored_byte ascii pick
top_bit icw c e = (rw e, rw e)

-- ---- an error and a special code

module _ (codes : List Bool) (m : List ℕ) (a : ℕ) (q : Port) (placed : Placed m a) (h : Automatic m a) where
  reported : apart codes m a q ≡ true → Unstored codes m a q → Reported codes m a q (code_of q) (128 + q.ch.byte % 128)
  unfolding input_service carried done_plan word_if byte_if pick
  reported t u =
      let icw = icw_of m a in
      let c = q.ch.byte in
      let planned = automatic codes m a q h.filling ∙ pick_true (apart codes m a q) (reported_plan m a q) (buffered_plan m a q) t in
      let there = written codes m a q (reported_plan m a q) placed planned refl in
      let fits = code_fits q.control q.ch in
      let byte = (top_bit icw c h.ascii).0 in
      let below : word_byte (ascii icw) c < 256 = omega (arith, byte) in
      record {
        one_interrupt = ap (λ (p : Plan). p.raised) planned;
        no_echo = ap (λ (p : Plan). p.echo) planned;
        told = record {
          character = ap (get CHARACTER) there ∙ done_character icw (code_of q) 0 c fits (lit< tt) below ∙ byte;
          done = ap (get INDONE) there ∙ done_done icw (code_of q) 0 c fits (lit< tt) below;
          flags = ap (get FLAGS) there ∙ done_flags icw (code_of q) 0 c fits (lit< tt) below;
          no-mark = ap (get NOT-ECHOED) there ∙ done_mark icw (code_of q) 0 c fits (lit< tt) below;
          same_ascii = ap (get ASCII) there ∙ done_ascii icw (code_of q) 0 c fits (lit< tt) below;
          same_mode = ap (get INMO) there ∙ done_mode icw (code_of q) 0 c fits (lit< tt) below;
          same_overload = ap (get SERVICE-OVERLOAD) there ∙ done_overload icw (code_of q) 0 c fits (lit< tt) below;
          same_pointer = kept_unstored codes m a q (a + at_ibp) u (λ e. omega (arith, e));
          same_words = λ k. kept_unstored codes m a q k u;
          same_length = kept_length codes m a q;
        };
      }

  -- a special code is reported, its top bit 1, with its error code
  pub special : special_in codes q.ch.byte ≡ true → Reported codes m a q (code_of q) (128 + q.ch.byte % 128)
  unfolding ascii
  special s = reported (rw (s, h.ascii) (or-true (not (eqb (code_of q) flag_none)))) (special_code h.ascii s)

  -- so is any code with an error
  pub with_error : code_of q ≢ flag_none → Reported codes m a q (code_of q) (128 + q.ch.byte % 128)
  with_error n = reported (rw (ne_eqb (code_of q) flag_none n)) (in_error n)

-- one interrupt, octal 374 in ICW with the error code, and nothing stored that would print it again
pub glottal_stop : (codes : List Bool) (m : List ℕ) (a : ℕ) (q : Port) (code : ℕ) → Placed m a → Automatic m a → Apart codes code → Bar q code → Reported codes m a q code 0o374
glottal_stop codes m a q code p h (inl s) k = rw (k.bar, k.coded) at (special codes m a q p h (seven_bits codes q.ch.byte 0o174 k.bar ∙ s))
glottal_stop codes m a q code p h (inr n) k = rw (k.bar, k.coded) at (with_error codes m a q p h (λ e. n (sym k.coded ∙ e)))

-- and it is reported with the overload code, whatever the set says of it; still neither stored nor echoed
pub glottal_stop_marked : (codes : List Bool) (m : List ℕ) (a : ℕ) (q : Port) → Placed m a → Automatic m a → q.ch.byte % 128 ≡ 0o174 → q.ch.overload ≡ true → Reported codes m a q flag_overload 0o374
glottal_stop_marked codes m a q p h e o = glottal_stop codes m a q flag_overload p h (inr (λ n. omega (arith, n))) (bar_marked q e o)

-- ---- an ordinary code

-- a letter is in the buffer with its top bit 1, where its place is not this port's ICW
pub ordinary : (codes : List Bool) (m : List ℕ) (a : ℕ) (q : Port) → Placed m a → Automatic m a → code_of q ≡ flag_none → special_in codes q.ch.byte ≡ false → next_of m a / 2 ≢ a + at_icw → Lettered codes m a q (128 + q.ch.byte % 128)
ordinary codes m a q placed h n s not-icw =
    let byte = (top_bit (icw_of m a) q.ch.byte h.ascii).1 in
    let fits : stored_byte (ascii (icw_of m a)) q.ch.byte < 256 = omega (arith, byte) in
    let stays = stored codes m a q placed h.filling fits (rw (n, s) (and-false (ascii (icw_of m a)))) not-icw in
    record { there = stays.stored ∙ byte; once = λ x. kept_byte codes m a q x fits; stored = stays }

-- so is the glottal stop where the unit's set calls it ordinary: as octal 374, after the letters before it, and reported only as a letter is
pub glottal_stop_kept : (codes : List Bool) (m : List ℕ) (a : ℕ) (q : Port) → Placed m a → Automatic m a → special_in codes 0o174 ≡ false → Bar q flag_none → next_of m a / 2 ≢ a + at_icw → Lettered codes m a q 0o374
glottal_stop_kept codes m a q placed h s k not-icw = rw k.bar at (ordinary codes m a q placed h k.coded (seven_bits codes q.ch.byte 0o174 k.bar ∙ s) not-icw)

-- ---- a character that comes while INDONE is set

-- the byte fits into ICW: it is a byte, or the mode makes it one
abbrev Fits : List ℕ → ℕ → Port → Type 0
Fits m a q = word_byte (ascii (icw_of m a)) q.ch.byte < 256

takes : (codes : List Bool) (m : List ℕ) (a : ℕ) (q : Port) → Placed m a → Fits m a q → get INDONE (icw_of m a) ≡ 1 → Replaced codes m a q
unfolding input_service input_plan replaced_plan carried word_if byte_if pick
takes codes m a q h byte d =
    let icw = icw_of m a in
    let c = q.ch.byte in
    let planned : plan_of codes m a q ≡ replaced_plan icw (code_of q) c = rw d in
    let there = written codes m a q (replaced_plan icw (code_of q) c) h planned refl in
    let fits = code_fits q.control q.ch in
    record {
      no_interrupt = ap (λ (p : Plan). p.raised) planned;
      no_echo = ap (λ (p : Plan). p.echo) planned;
      character = ap (get CHARACTER) there ∙ replaced_character icw (code_of q) c fits byte;
      lost_one = ap (get SERVICE-OVERLOAD) there ∙ replaced_overload icw (code_of q) c fits byte;
      flags = ap (get FLAGS) there ∙ replaced_flags icw (code_of q) c fits byte;
      still_done = ap (get INDONE) there ∙ replaced_done icw (code_of q) c fits byte ∙ d;
      same_words = λ k. kept_unstored codes m a q k (indone_set d);
    }

pub replaced : (codes : List Bool) (m : List ℕ) (a : ℕ) (q : Port) → Placed m a → q.ch.byte < 256 → get INDONE (icw_of m a) ≡ 1 → Replaced codes m a q
replaced codes m a q h byte d = takes codes m a q h (word_fits (ascii (icw_of m a)) q.ch.byte byte) d

-- the next character of a port whose glottal stop the host has not taken: it stands in ICW in its place, top bit 1, and bit 7 is the mark
-- that one was lost
pub glottal_stop_lost : (codes : List Bool) (m : List ℕ) (a : ℕ) (q r : Port) (code : ℕ) → Placed m a → Automatic m a → Apart codes code → Bar q code → Replaced codes (after codes m a q) a r × (get CHARACTER (icw_of (after codes (after codes m a q) a r) a) ≡ 128 + r.ch.byte % 128)
glottal_stop_lost codes m a q r code p h s k =
    let told = (glottal_stop codes m a q code p h s k).told in
    let byte = (top_bit (icw_of (after codes m a q) a) r.ch.byte (told.same_ascii ∙ h.ascii)).0 in
    let there : Placed (after codes m a q) a = record { words = told.same_length ∙ p.words; inside = p.inside } in
    let next = takes codes (after codes m a q) a r there (omega (arith, byte)) told.done in
    (next, next.character ∙ byte)
