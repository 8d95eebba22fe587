-- What an input service may change in the host's memory (document 01, Input): ICW, IBP and the one byte of the buffer.
--   kept_length   the memory keeps its length
--   kept_word     every word is as it was but ICW, IBP and the word that holds the buffer's byte
--   Unstored      steps 1 to 5, each by its own condition: the character does not go to the buffer
--   kept_unstored so every word but ICW is as it was
--   kept_dropped  and where the mode asks for no input, the whole memory is
-- In proofs/laws/Kept, since they rest on these: kept_byte, kept_planned, kept_unstored.
-- Not here: what the words that may change become, in Word, Automatic and Glottal; the port's own changes, in scan.
-- Assumes nothing.
use Rattle.std.specs.Prelude.{◌≡◌, refl, Bool, true, false, not, List, ◌≢◌, ℕ, ◌+◌, ◌/◌, eqb, length, get_or}
use Rattle.std.proofs.Common.{ap, ne_eqb}
use Rattle.ground.specs.Choose.{pick}
use Rattle.words.specs.Field.{get}
use Rattle.words.specs.Codes.{at_icw, at_ibp, at_lib, INDONE, INMO, in_none, in_single, ASCII, flag_none}
use Rattle.words.specs.Pointer.{step_ptr, at_end}
use Rattle.words.specs.Byte.{word_if, byte_if}
use Rattle.words.specs.laws.Byte.{length_word_if, length_byte_if, other_word, other_word_of_byte}
use Rattle.words.specs.Special.{special_in}
use Rattle.unit.specs.declared.mux.Port.{Port}
use Rattle.input.specs.Plan.{Plan}
use Rattle.input.specs.Input.{error_code, ascii, input_plan, replaced_plan, dropped_plan, done_plan, carried, input_service}

-- ICW of the port whose block starts at the word a
abbrev pub icw_of : List ℕ → ℕ → ℕ
icw_of m a = get_or m (a + at_icw) 0

-- the buffer ends with its next byte
abbrev pub last_of : List ℕ → ℕ → Bool
last_of m a = at_end (get_or m (a + at_ibp) 0) (get_or m (a + at_lib) 0)

-- the error code of the held character
abbrev pub code_of : Port → ℕ
code_of q = error_code q.control q.ch

-- what the service does with it
abbrev pub plan_of : List Bool → List ℕ → ℕ → Port → Plan
plan_of codes m a q = input_plan (icw_of m a) (code_of q) q.ch.byte (last_of m a) (special_in codes q.ch.byte) q.empty

-- the pointer of the buffer's next byte
abbrev pub next_of : List ℕ → ℕ → ℕ
next_of m a = step_ptr (get_or m (a + at_ibp) 0)

-- the memory after the service
abbrev pub after : List Bool → List ℕ → ℕ → Port → List ℕ
after codes m a q = (input_service codes m a q).memory

-- ---- of any plan's stores

stores_length : (p : Plan) (a next : ℕ) (m : List ℕ) → length (carried p a next m) ≡ length m
unfolding carried
stores_length p a next m = simp (length_word_if, length_byte_if)

stores_word : (p : Plan) (a next : ℕ) (m : List ℕ) (k : ℕ) → k ≢ a + at_icw → k ≢ a + at_ibp → k ≢ next / 2 → get_or (carried p a next m) k 0 ≡ get_or m k 0
unfolding carried
stores_word p a next m k i b n = simp (other_word, other_word_of_byte)

-- ---- of every branch of the plan

pub either : (C : Plan → Type 0) (t : Bool) (p r : Plan) → C p → C r → C (pick t p r)
unfolding pick
either C true p r h k = h
either C false p r h k = k

-- ---- the service

-- the memory is as long as before
pub kept_length : (codes : List Bool) (m : List ℕ) (a : ℕ) (q : Port) → length (after codes m a q) ≡ length m
unfolding input_service
kept_length codes m a q = simp stores_length

-- a word that is not ICW, not IBP and does not hold the buffer's next byte is as it was
pub kept_word : (codes : List Bool) (m : List ℕ) (a : ℕ) (q : Port) (k : ℕ) → k ≢ a + at_icw → k ≢ a + at_ibp → k ≢ next_of m a / 2 → get_or (after codes m a q) k 0 ≡ get_or m k 0
unfolding input_service
kept_word codes m a q k i b n = stores_word _ a (next_of m a) m k i b n

-- ---- a character that does not go to the buffer

-- steps 1 to 5 in order, each by its own condition as the plan reads it; none asks that those before it were passed
pub data Unstored (codes : List Bool) (m : List ℕ) (a : ℕ) (q : Port) : Type 0 where
  indone_set : get INDONE (icw_of m a) ≡ 1 → Unstored codes m a q
  no_input : get INMO (icw_of m a) ≡ in_none → Unstored codes m a q
  single : get INMO (icw_of m a) ≡ in_single → Unstored codes m a q
  in_error : code_of q ≢ flag_none → Unstored codes m a q
  special_code : get ASCII (icw_of m a) ≡ 1 → special_in codes q.ch.byte ≡ true → Unstored codes m a q

-- a plan that stores no byte
abbrev Leaves : Plan → Type 0
Leaves p = p.store ≡ false

pub plan_leaves : (codes : List Bool) (m : List ℕ) (a : ℕ) (q : Port) → Unstored codes m a q → (plan_of codes m a q).store ≡ false
unfolding input_plan replaced_plan done_plan ascii pick
plan_leaves codes m a q (indone_set e) = rw e
plan_leaves codes m a q (no_input e) = either Leaves (eqb (get INDONE (icw_of m a)) 1) _ _ refl (rw e)
plan_leaves codes m a q (single e) = either Leaves (eqb (get INDONE (icw_of m a)) 1) _ _ refl (rw e)
plan_leaves codes m a q (in_error n) =
    either Leaves (eqb (get INDONE (icw_of m a)) 1) _ _ refl
    (either Leaves (eqb (get INMO (icw_of m a)) in_none) _ _ refl
    (either Leaves (eqb (get INMO (icw_of m a)) in_single) _ _ refl (rw (ne_eqb (code_of q) flag_none n))))
plan_leaves codes m a q (special_code e s) =
    either Leaves (eqb (get INDONE (icw_of m a)) 1) _ _ refl
    (either Leaves (eqb (get INMO (icw_of m a)) in_none) _ _ refl
    (either Leaves (eqb (get INMO (icw_of m a)) in_single) _ _ refl
    (either Leaves (not (eqb (code_of q) flag_none)) _ _ refl (rw (e, s)))))

-- INDONE clear and a mode that asks for no input: not a word changes
pub kept_dropped : (codes : List Bool) (m : List ℕ) (a : ℕ) (q : Port) → get INDONE (icw_of m a) ≡ 0 → get INMO (icw_of m a) ≡ in_none → after codes m a q ≡ m
unfolding input_service input_plan carried word_if byte_if pick
kept_dropped codes m a q d e =
    let dropped : plan_of codes m a q ≡ dropped_plan = rw (d, e) in
    ap (λ (p : Plan). carried p a (next_of m a) m) dropped
