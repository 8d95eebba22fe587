-- A character in automatic mode (document 01, Input 4, 5 and 6): the host is told of it by ICW, or it is stored in the buffer.
--   Filling           automatic mode, with echo or without, INDONE clear as read
--   apart, busy_of, done_of, reported_plan, buffered_plan   what the plan there turns on, and its two ways
--   automatic         steps 1 to 3 are passed: an error or a special code of 7-bit ASCII mode is done, any other character is stored
--   written           where ICW is written, it is what the plan says
--   Stored, stored    a character that is stored: its byte, IBP, the interrupt and ICW
-- In proofs/laws/Automatic, since they rest on these: stored, raised_done.
-- Not here: the glottal stop and what 7-bit ASCII mode makes of a byte, in Glottal; every other word of the memory, in Kept.
-- Assumes nothing.
use Rattle.std.specs.Prelude.{◌≡◌, refl, Bool, true, false, not, ◌&&◌, ◌||◌, List, ◌≢◌, ◌⊎◌, ℕ, ◌+◌, ◌/◌, eqb, get_or}
use Rattle.std.proofs.Common.{◌∙◌, ap, inl, inr, arith}
use Rattle.ground.specs.Choose.{pick, bit}
use Rattle.words.specs.Field.{get}
use Rattle.words.specs.Codes.{at_icw, at_ibp, INDONE, INMO, in_auto, in_echo, flag_none, stored_byte}
use Rattle.words.specs.Byte.{byte_at, word_if, byte_if}
use Rattle.words.specs.laws.Byte.{length_word_if, length_byte_if, read_word}
use Rattle.words.specs.Special.{special_in}
use Rattle.unit.specs.declared.mux.Port.{Port}
use Rattle.unit.specs.laws.Sound.{Placed}
use Rattle.input.specs.Plan.{Plan}
use Rattle.input.specs.Input.{ascii, done_icw, done_plan, stored_plan, input_plan, carried, input_service}
use Rattle.input.specs.laws.Kept.{icw_of, last_of, code_of, plan_of, next_of, after}

-- ICW asks for automatic mode, with echo or without, and INDONE is clear
pub record Filling (icw : ℕ) : Type 0 where
  pub clear : get INDONE icw ≡ 0
  pub mode : (get INMO icw ≡ in_auto) ⊎ (get INMO icw ≡ in_echo)

-- ---- the plan

-- an error, or a special code in 7-bit ASCII mode: the character does not go to the buffer
abbrev pub apart : List Bool → List ℕ → ℕ → Port → Bool
apart codes m a q = not (eqb (code_of q) flag_none) || (ascii (icw_of m a) && special_in codes q.ch.byte)

-- the echo that the mode asks for finds the transmitter busy
abbrev pub busy_of : List ℕ → ℕ → Port → Bool
busy_of m a q = eqb (get INMO (icw_of m a)) in_echo && not q.empty

-- the stored character is done
abbrev pub done_of : List ℕ → ℕ → Port → Bool
done_of m a q = last_of m a || busy_of m a q

-- steps 4 and 5: neither sets the echo mark
abbrev pub reported_plan : List ℕ → ℕ → Port → Plan
reported_plan m a q = done_plan (icw_of m a) (code_of q) 0 q.ch.byte

-- step 6
abbrev pub buffered_plan : List ℕ → ℕ → Port → Plan
buffered_plan m a q = stored_plan (icw_of m a) q.ch.byte (last_of m a) (eqb (get INMO (icw_of m a)) in_echo) q.empty

both_ways : (s t : Bool) (p r : Plan) → pick s p (pick t p r) ≡ pick (s || t) p r
unfolding pick
both_ways true t p r = refl
both_ways false t p r = refl

-- steps 1 to 3 are passed
pub automatic : (codes : List Bool) (m : List ℕ) (a : ℕ) (q : Port) → Filling (icw_of m a) → plan_of codes m a q ≡ pick (apart codes m a q) (reported_plan m a q) (buffered_plan m a q)
unfolding input_plan pick
automatic codes m a q h = by h.mode ∙ both_ways (not (eqb (code_of q) flag_none)) (ascii (icw_of m a) && special_in codes q.ch.byte) (reported_plan m a q) (buffered_plan m a q)
  where
    rest : Plan
    rest = pick (not (eqb (code_of q) flag_none)) (reported_plan m a q) (pick (ascii (icw_of m a) && special_in codes q.ch.byte) (reported_plan m a q) (buffered_plan m a q))

    by : (get INMO (icw_of m a) ≡ in_auto) ⊎ (get INMO (icw_of m a) ≡ in_echo) → plan_of codes m a q ≡ rest
    by (inl e) = simp (h.clear, e)
    by (inr e) = simp (h.clear, e)

-- ---- ICW

-- where the plan writes ICW, ICW is what it says: no store comes after
pub written : (codes : List Bool) (m : List ℕ) (a : ℕ) (q : Port) (p : Plan) → Placed m a → plan_of codes m a q ≡ p → p.write ≡ true → icw_of (after codes m a q) a ≡ p.icw
unfolding input_service carried
written codes m a q p h e w =
    let next = next_of m a in
    let before = byte_if p.store (word_if p.store m (a + at_ibp) next) next p.byte in
    ap (λ (r : Plan). icw_of (carried r a next m) a) e
    ∙ ap (λ (t : Bool). get_or (word_if t before (a + at_icw) p.icw) (a + at_icw) 0) w
    ∙ read_word before (a + at_icw) p.icw (simp (length_byte_if, length_word_if) (omega (arith, h.words, h.inside)))

-- ---- a character that is stored

-- its byte is in the buffer, and IBP names it unless the byte itself lies there. It is done, with an interrupt, only where the
-- buffer ends with it or its echo finds the transmitter busy; where it is not, ICW is as read. It is echoed where the mode asks for that
-- and the transmitter is empty. Every other word is as Kept says.
pub record Stored (codes : List Bool) (m : List ℕ) (a : ℕ) (q : Port) : Type 0 where
  pub stored : byte_at (after codes m a q) (next_of m a) ≡ stored_byte (ascii (icw_of m a)) q.ch.byte
  pub pointer : next_of m a / 2 ≢ a + at_ibp → get_or (after codes m a q) (a + at_ibp) 0 ≡ next_of m a
  pub interrupt : (input_service codes m a q).effect.raised ≡ done_of m a q
  pub echo : (input_service codes m a q).effect.sent ≡ (eqb (get INMO (icw_of m a)) in_echo && q.empty)
  pub same_icw : done_of m a q ≡ false → icw_of (after codes m a q) a ≡ icw_of m a
  pub done_icw_lem : done_of m a q ≡ true → icw_of (after codes m a q) a ≡ done_icw (icw_of m a) flag_none (bit (busy_of m a q)) q.ch.byte
