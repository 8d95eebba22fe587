-- Laws of bytes in the host's memory: the length is kept; what is stored is read back; every other word and every other byte is as it was.
-- Not here: what a byte of the memory is, in specs/Byte; fields of one word, in Field.
-- Assumes nothing.
use Rattle.std.specs.Prelude.{◌≡◌, ℕ, ◌/◌, ◌%◌, ◌<◌, Bool, true, false, ◌≢◌, List, length, ◌==◌, nat_lt, slice_index, slice_set, refl}
use Rattle.std.proofs.Common.{◌∙◌, ap, arith, eqb-true, ltb-true, ltb-false, length-set, get_or-set_same, get_or-set_other}
use Rattle.std.proofs.lemmas.Bool.{eqb-false}
use Rattle.std.proofs.Math.Seq.{set_out}
use Rattle.ground.specs.Choose.{pick}
use Rattle.words.specs.Field.{get, put, Whole}
use Rattle.words.specs.Codes.{LEFT, RIGHT}
use Rattle.words.specs.Byte.{half_at, byte_at, store_byte, word_if, byte_if}
use Rattle.words.specs.laws.Field.{whole, get-put, get_put_above, get_put_below}

-- ---- the half that a pointer names is a field of a word, of 256 values

pub half_whole : (p : ℕ) → Whole (half_at p)
unfolding half_at pick
half_whole p = by (p % 2 == 0)
  where
    by : (t : Bool) → Whole (pick t LEFT RIGHT)
    by true = whole LEFT tt tt refl
    by false = whole RIGHT tt tt refl

pub half_span : (p : ℕ) → (half_at p).span ≡ 256
unfolding half_at pick
half_span p = by (p % 2 == 0)
  where
    by : (t : Bool) → (pick t LEFT RIGHT).span ≡ 256
    by true = refl
    by false = refl

-- ---- the memory keeps its length

pub length_word_if : (on : Bool) (m : List ℕ) (at w : ℕ) → length (word_if on m at w) ≡ length m
unfolding word_if pick
length_word_if true m at w = length-set m at w
length_word_if false m at w = refl

pub length_byte_if : (on : Bool) (m : List ℕ) (p b : ℕ) → length (byte_if on m p b) ≡ length m
unfolding byte_if store_byte pick
length_byte_if true m p b = length-set m (p / 2) _
length_byte_if false m p b = refl

-- ---- every other word is as it was

pub other_word : (on : Bool) (m : List ℕ) (at w k : ℕ) → k ≢ at → slice_index (word_if on m at w) k ≡ slice_index m k
unfolding word_if pick
other_word true m at w k h = get_or-set_other m at k w 0 h
other_word false m at w k h = refl

pub other_word_of_byte : (on : Bool) (m : List ℕ) (p b k : ℕ) → k ≢ p / 2 → slice_index (byte_if on m p b) k ≡ slice_index m k
unfolding byte_if store_byte pick
other_word_of_byte true m p b k h = get_or-set_other m (p / 2) k _ 0 h
other_word_of_byte false m p b k h = refl

-- ---- a stored word and a stored byte are read back

pub read_word : (m : List ℕ) (at w : ℕ) → at < length m → slice_index (word_if true m at w) at ≡ w
unfolding word_if pick
read_word m at w l = get_or-set_same m at w 0 l

pub read_byte : (m : List ℕ) (p b : ℕ) → p / 2 < length m → b < 256 → byte_at (byte_if true m p b) p ≡ b
unfolding byte_if byte_at store_byte pick
read_byte m p b l h =
    ap (get (half_at p)) (get_or-set_same m (p / 2) _ 0 l) ∙ get-put (half_at p) b _ (half_whole p) (rw half_span h)

-- ---- every other byte is as it was: the other half of the word, and both halves of every other word

-- one half of a word where the other is written
beside : (p q b w : ℕ) → b < 256 → q % 2 ≢ p % 2 → get (half_at q) (put (half_at p) b w) ≡ get (half_at q) w
unfolding half_at pick
beside p q b w h n = by (p % 2 == 0) (q % 2 == 0) refl refl
  where
    by : (s t : Bool) → (p % 2 == 0) ≡ s → (q % 2 == 0) ≡ t → get (pick t LEFT RIGHT) (put (pick s LEFT RIGHT) b w) ≡ get (pick t LEFT RIGHT) w
    by true true d e = absurd (omega (arith, eqb-true (p % 2) 0 d, eqb-true (q % 2) 0 e, n))
    by true false d e = get_put_below LEFT RIGHT 1 b w refl (half_whole 1)
    by false true d e = get_put_above RIGHT LEFT 1 b w refl (half_whole 1) h
    by false false d e = absurd (omega (arith, eqb-false (p % 2) 0 d, eqb-false (q % 2) 0 e, n))

pub other_byte : (on : Bool) (m : List ℕ) (p b q : ℕ) → b < 256 → q ≢ p → byte_at (byte_if on m p b) q ≡ byte_at m q
unfolding byte_if byte_at store_byte pick
other_byte false m p b q h n = refl
other_byte true m p b q h n = by (q / 2 == p / 2) (nat_lt (p / 2) (length m)) refl refl
  where
    w : ℕ
    w = put (half_at p) b (slice_index m (p / 2))

    by : (t l : Bool) → (q / 2 == p / 2) ≡ t → nat_lt (p / 2) (length m) ≡ l → get (half_at q) (slice_index (slice_set m (p / 2) w) (q / 2)) ≡ get (half_at q) (slice_index m (q / 2))
    -- another word
    by false l e d = ap (get (half_at q)) (get_or-set_other m (p / 2) (q / 2) w 0 (eqb-false (q / 2) (p / 2) e))
    -- the other half of the word
    by true true e d =
        rw (eqb-true (q / 2) (p / 2) e, get_or-set_same m (p / 2) w 0 (ltb-true (p / 2) (length m) d)) (beside p q b (slice_index m (p / 2)) h (omega (arith, eqb-true (q / 2) (p / 2) e)))
    -- a pointer past the memory's end: nothing was stored
    by true false e d = ap (λ (r : List ℕ). get (half_at q) (slice_index r (q / 2))) (set_out m (p / 2) w (ltb-false (p / 2) (length m) d))

pub other_byte_of_word : (on : Bool) (m : List ℕ) (at w q : ℕ) → q / 2 ≢ at → byte_at (word_if on m at w) q ≡ byte_at m q
unfolding byte_at
other_byte_of_word on m at w q n = ap (get (half_at q)) (other_word on m at w (q / 2) n)
