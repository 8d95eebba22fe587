-- The glottal stop that is sent (document 01, Output 01; document 02, K5): octal 174, with its top bit or without, out of the buffer of an automatic output.
--   Handed           a byte was handed over as it was fetched, and nothing but the buffer's end and a change of Device Status makes it done
-- In proofs/laws/Glottal, since they rest on these: hands, ordinary, glottal_passes, glottal_stops.
-- Not here: OCW as it is written, in Word; the buffer's end, in Ends.
-- Assumes nothing.
use Rattle.std.specs.Prelude.{◌≡◌, Bool, true, ◌||◌, List, ℕ, ◌+◌, get_or}
use Rattle.ground.specs.Choose.{bit}
use Rattle.words.specs.Field.{get}
use Rattle.words.specs.Codes.{at_ocw, OUTDONE}
use Rattle.unit.specs.declared.mux.Port.{Port}
use Rattle.unit.specs.laws.Sound.{Placed}
use Rattle.output.specs.Output.{becomes_changed, output_service}
use Rattle.output.specs.laws.Kept.{after}
use Rattle.output.specs.laws.Rules.{ocw_of, fetched_of}
use Rattle.output.specs.laws.Ends.{last_of}

-- the byte was handed over, and done is what it is for any byte without a special request: OUTDONE says so
pub record Handed (codes : List Bool) (m : List ℕ) (a : ℕ) (q : Port) : Type 0 where
  pub sent : (output_service codes m a q).effect.sent ≡ true
  pub byte : (output_service codes m a q).effect.byte ≡ fetched_of m a
  pub interrupt : (output_service codes m a q).effect.raised ≡ (last_of m a || becomes_changed (ocw_of m a) q.devstatus)
  pub outdone : Placed m a → get OUTDONE (get_or (after codes m a q) (a + at_ocw) 0) ≡ bit (last_of m a || becomes_changed (ocw_of m a) q.devstatus)
