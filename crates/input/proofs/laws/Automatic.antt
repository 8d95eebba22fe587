-- A character in automatic mode (document 01, Input 4, 5 and 6): the host is told of it by ICW, or it is stored in the buffer.
--   Stored, stored    a character that is stored: its byte, IBP, the interrupt and ICW
--   raised_done       a character that raises an interrupt leaves INDONE set
-- Here, and not in specs/laws/Automatic, is what rests on other laws of specs/: an edit of a definition counts as refused where nothing in specs/ rests on the
-- law that it breaks.
-- Assumes nothing.
use Rattle.std.specs.Prelude.{◌≡◌, refl, Bool, true, false, List, ◌≢◌, ℕ, ◌+◌, ◌/◌, ◌<◌, get_or}
use Rattle.std.proofs.Common.{◌∙◌, ap, sym, arith, lit<}
use Rattle.ground.specs.Choose.{pick, bit}
use Rattle.ground.specs.laws.Rows.{pick_true, pick-false, bit_below}
use Rattle.words.specs.Field.{get}
use Rattle.words.specs.Codes.{at_icw, at_ibp, INDONE, flag_none, stored_byte, word_byte}
use Rattle.words.specs.laws.Codes.{word_fits}
use Rattle.words.specs.Byte.{byte_at, word_if, byte_if}
use Rattle.words.specs.laws.Byte.{length_word_if, other_word, other_word_of_byte, other_byte_of_word, read_word, read_byte}
use Rattle.unit.specs.declared.mux.Port.{Port}
use Rattle.unit.specs.laws.Sound.{Placed}
use Rattle.input.specs.Plan.{Plan}
use Rattle.input.specs.Input.{ascii, done_plan, stored_plan, carried, input_service}
use Rattle.input.specs.laws.Word.{code_fits, done_done}
use Rattle.input.specs.laws.Kept.{icw_of, code_of, plan_of, next_of, after}
use Rattle.input.specs.laws.Automatic.{Filling, apart, busy_of, done_of, reported_plan, buffered_plan, automatic, written, Stored}

-- ---- a character that is stored

-- a character whose place in the buffer is not this port's ICW. Its place may be IBP: the byte is stored after the pointer, and is there.
pub stored : (codes : List Bool) (m : List ℕ) (a : ℕ) (q : Port) → Placed m a → Filling (icw_of m a) → stored_byte (ascii (icw_of m a)) q.ch.byte < 256 → apart codes m a q ≡ false → next_of m a / 2 ≢ a + at_icw → Stored codes m a q
unfolding input_service carried stored_plan word_if pick
stored codes m a q placed h byte s not-icw =
    let next = next_of m a in
    let done = done_of m a q in
    let p = buffered_plan m a q in
    let planned = automatic codes m a q h ∙ pick-false (apart codes m a q) (reported_plan m a q) p s in
    let carries : after codes m a q ≡ carried p a next m = ap (λ (r : Plan). carried r a next m) planned in
    let pointed = word_if true m (a + at_ibp) next in
    let there = byte_if true pointed next p.byte in
    record {
      stored =
          ap (λ (r : List ℕ). byte_at r next) carries
          ∙ other_byte_of_word done there (a + at_icw) p.icw next not-icw
          ∙ read_byte pointed next p.byte (rw length_word_if (omega (arith, placed.words))) byte;
      pointer = λ not-ibp.
          ap (λ (r : List ℕ). get_or r (a + at_ibp) 0) carries
          ∙ other_word done there (a + at_icw) p.icw (a + at_ibp) (λ e. omega (arith, e))
          ∙ other_word_of_byte true pointed next p.byte (a + at_ibp) (λ e. not-ibp (sym e))
          ∙ read_word m (a + at_ibp) next (omega (arith, placed.words, placed.inside));
      interrupt = ap (λ (r : Plan). r.raised) planned;
      echo = ap (λ (r : Plan). r.echo) planned;
      same_icw = λ quiet.
          ap (λ (r : List ℕ). get_or r (a + at_icw) 0) carries
          ∙ ap (λ (t : Bool). get_or (word_if t there (a + at_icw) p.icw) (a + at_icw) 0) quiet
          ∙ other_word_of_byte true pointed next p.byte (a + at_icw) (λ e. not-icw (sym e))
          ∙ other_word true m (a + at_ibp) next (a + at_icw) (λ e. omega (arith, e));
      done_icw_lem = written codes m a q p placed planned;
    }

-- ---- a character that is done

pub raised_done : (codes : List Bool) (m : List ℕ) (a : ℕ) (q : Port) → Placed m a → Filling (icw_of m a) → q.ch.byte < 256 → (input_service codes m a q).effect.raised ≡ true → get INDONE (icw_of (after codes m a q) a) ≡ 1
unfolding input_service done_plan stored_plan
raised_done codes m a q placed h byte r = by (apart codes m a q) refl
  where
    icw : ℕ
    icw = icw_of m a

    -- the plan writes a word whose INDONE is set
    set : (p : Plan) → plan_of codes m a q ≡ p → p.write ≡ true → get INDONE p.icw ≡ 1 → get INDONE (icw_of (after codes m a q) a) ≡ 1
    set p e w d = ap (get INDONE) (written codes m a q p placed e w) ∙ d

    fits : word_byte (ascii icw) q.ch.byte < 256
    fits = word_fits (ascii icw) q.ch.byte byte

    by : (t : Bool) → apart codes m a q ≡ t → get INDONE (icw_of (after codes m a q) a) ≡ 1
    by true e = set (reported_plan m a q) (automatic codes m a q h ∙ pick_true (apart codes m a q) (reported_plan m a q) (buffered_plan m a q) e) refl (done_done icw (code_of q) 0 q.ch.byte (code_fits q.control q.ch) (lit< tt) fits)
    by false e =
        let planned = automatic codes m a q h ∙ pick-false (apart codes m a q) (reported_plan m a q) (buffered_plan m a q) e in
        set (buffered_plan m a q) planned (sym (ap (λ (p : Plan). p.raised) planned) ∙ r) (done_done icw flag_none (bit (busy_of m a q)) q.ch.byte (lit< tt) (bit_below (busy_of m a q)) fits)
