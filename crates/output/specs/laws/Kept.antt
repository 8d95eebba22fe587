-- What an output service may change in the host's memory (document 01, Output): OCW, and OBP where the mode is automatic.
--   stepped        the memory with the pointer stepped, where the mode is automatic
--   kept_length    the memory keeps its length
--   kept_word      every word but OCW and OBP is as it was
--   kept_pointer   where the service is no automatic output, OBP is as it was too
-- Not here: what OCW and OBP become, in Output itself, and in Word and Ends; the port's own changes, in scan.
-- Assumes nothing.
use Rattle.std.specs.Prelude.{◌≡◌, Bool, false, List, ◌≢◌, ℕ, ◌+◌, length, get_or}
use Rattle.std.proofs.Common.{◌∙◌, ap, length-set, get_or-set_other}
use Rattle.ground.specs.Choose.{pick}
use Rattle.words.specs.Codes.{at_ocw, at_obp}
use Rattle.words.specs.Pointer.{step_ptr}
use Rattle.words.specs.Byte.{word_if}
use Rattle.words.specs.laws.Byte.{length_word_if, other_word}
use Rattle.unit.specs.declared.mux.Port.{Port}
use Rattle.output.specs.Output.{is_auto, output_service}

-- the memory after the service
abbrev pub after : List Bool → List ℕ → ℕ → Port → List ℕ
after codes m a q = (output_service codes m a q).memory

-- the memory with the pointer stepped, or as it was: what the service finds when it writes OCW
unfoldable pub stepped : List ℕ → ℕ → List ℕ
stepped m a = word_if (is_auto (get_or m (a + at_ocw) 0)) m (a + at_obp) (step_ptr (get_or m (a + at_obp) 0))

-- beside OCW the service leaves what the step left
but_ocw : (codes : List Bool) (m : List ℕ) (a : ℕ) (q : Port) (k : ℕ) → k ≢ a + at_ocw → get_or (after codes m a q) k 0 ≡ get_or (stepped m a) k 0
unfolding output_service stepped
but_ocw codes m a q k n = get_or-set_other (stepped m a) (a + at_ocw) k _ 0 n

-- the memory is as long as before
pub kept_length : (codes : List Bool) (m : List ℕ) (a : ℕ) (q : Port) → length (after codes m a q) ≡ length m
unfolding output_service
kept_length codes m a q = simp (length-set, length_word_if)

-- a word that is neither OCW nor OBP is as it was
pub kept_word : (codes : List Bool) (m : List ℕ) (a : ℕ) (q : Port) (k : ℕ) → k ≢ a + at_ocw → k ≢ a + at_obp → get_or (after codes m a q) k 0 ≡ get_or m k 0
unfolding stepped
kept_word codes m a q k o p = but_ocw codes m a q k o ∙ other_word (is_auto (get_or m (a + at_ocw) 0)) m (a + at_obp) (step_ptr (get_or m (a + at_obp) 0)) k p

-- a service that is no automatic output leaves every word but OCW as it was
pub kept_pointer : (codes : List Bool) (m : List ℕ) (a : ℕ) (q : Port) (k : ℕ) → is_auto (get_or m (a + at_ocw) 0) ≡ false → k ≢ a + at_ocw → get_or (after codes m a q) k 0 ≡ get_or m k 0
unfolding stepped word_if pick
kept_pointer codes m a q k e o = but_ocw codes m a q k o ∙ ap (λ (t : Bool). get_or (word_if t m (a + at_obp) (step_ptr (get_or m (a + at_obp) 0))) k 0) e
