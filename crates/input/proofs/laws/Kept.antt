-- What an input service may change in the host's memory (document 01, Input): ICW, IBP and the one byte of the buffer.
--   kept_byte     every byte is as it was but those of ICW and IBP and the one stored: of its word the other half is kept
--   kept_planned  where the plan stores no byte, every word but ICW is as it was
-- Here, and not in specs/laws/Kept, is what rests on other laws of specs/: an edit of a definition counts as refused where nothing in specs/ rests on the
-- law that it breaks.
-- Assumes nothing.
use Rattle.std.specs.Prelude.{◌≡◌, Bool, false, not, ◌&&◌, List, ◌≢◌, ℕ, ◌+◌, ◌/◌, ◌<◌, eqb, get_or}
use Rattle.std.proofs.Common.{◌∙◌, ap, lit<}
use Rattle.ground.specs.Choose.{pick}
use Rattle.words.specs.Field.{get}
use Rattle.words.specs.Codes.{at_icw, at_ibp, INDONE, INMO, in_none, in_single, flag_none, stored_byte}
use Rattle.words.specs.Byte.{byte_at, word_if, byte_if}
use Rattle.words.specs.laws.Byte.{other_word, other_byte, other_byte_of_word}
use Rattle.unit.specs.declared.mux.Port.{Port}
use Rattle.input.specs.Plan.{Plan}
use Rattle.input.specs.Input.{ascii, input_plan, replaced_plan, done_plan, stored_plan, carried, input_service}
use Rattle.input.specs.laws.Kept.{icw_of, plan_of, next_of, after, either, Unstored, plan_leaves}

-- ---- of any plan's stores

stores_byte : (p : Plan) (a next : ℕ) (m : List ℕ) (r : ℕ) → p.byte < 256 → r / 2 ≢ a + at_icw → r / 2 ≢ a + at_ibp → r ≢ next → byte_at (carried p a next m) r ≡ byte_at m r
unfolding carried
stores_byte p a next m r h i b n = simp (other_byte_of_word, other_byte)

-- where the plan stores no byte, it leaves every word but ICW
stores_none : (p : Plan) (a next : ℕ) (m : List ℕ) (k : ℕ) → p.store ≡ false → k ≢ a + at_icw → get_or (carried p a next m) k 0 ≡ get_or m k 0
unfolding carried word_if byte_if pick
stores_none p a next m k e i =
    let stored : Bool → List ℕ = λ t. byte_if t (word_if t m (a + at_ibp) next) next p.byte in
    other_word p.write (stored p.store) (a + at_icw) p.icw k i ∙ ap (λ (t : Bool). get_or (stored t) k 0) e

-- ---- of every branch of the plan

-- its byte is a byte
abbrev Fits : Plan → Type 0
Fits p = p.byte < 256

plan_byte : (icw code c : ℕ) (last special empty : Bool) → stored_byte (ascii icw) c < 256 → (input_plan icw code c last special empty).byte < 256
unfolding input_plan replaced_plan done_plan stored_plan
plan_byte icw code c last special empty h =
    either Fits (eqb (get INDONE icw) 1) _ _ (lit< tt)
    (either Fits (eqb (get INMO icw) in_none) _ _ (lit< tt)
    (either Fits (eqb (get INMO icw) in_single) _ _ (lit< tt)
    (either Fits (not (eqb code flag_none)) _ _ (lit< tt)
    (either Fits (ascii icw && special) _ _ (lit< tt) h))))

-- ---- the service

-- a byte that is not the buffer's next one and lies in neither ICW nor IBP is as it was: so the other half of the stored byte's word is. What
-- would be stored is a byte, as it is of any character that is one (`stored_fits` of words) and of any in 7-bit ASCII mode
pub kept_byte : (codes : List Bool) (m : List ℕ) (a : ℕ) (q : Port) (r : ℕ) → stored_byte (ascii (icw_of m a)) q.ch.byte < 256 → r / 2 ≢ a + at_icw → r / 2 ≢ a + at_ibp → r ≢ next_of m a → byte_at (after codes m a q) r ≡ byte_at m r
unfolding input_service
kept_byte codes m a q r h i b n = stores_byte _ a (next_of m a) m r (plan_byte _ _ q.ch.byte _ _ _ h) i b n

-- ---- a character that does not go to the buffer

-- where the plan stores no byte, every word but ICW is as it was
pub kept_planned : (codes : List Bool) (m : List ℕ) (a : ℕ) (q : Port) (k : ℕ) → (plan_of codes m a q).store ≡ false → k ≢ a + at_icw → get_or (after codes m a q) k 0 ≡ get_or m k 0
unfolding input_service
kept_planned codes m a q k e i = stores_none (plan_of codes m a q) a (next_of m a) m k e i

-- in each of them every word but ICW is as it was
pub kept_unstored : (codes : List Bool) (m : List ℕ) (a : ℕ) (q : Port) (k : ℕ) → Unstored codes m a q → k ≢ a + at_icw → get_or (after codes m a q) k 0 ≡ get_or m k 0
kept_unstored codes m a q k h i = kept_planned codes m a q k (plan_leaves codes m a q h) i
