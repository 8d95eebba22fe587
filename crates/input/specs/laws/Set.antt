-- What the unit's set of special codes is to an input service (document 02, K5).
--   same_word      a service asks the set for its word on the character's own code, and for nothing else
--   unasked        without 7-bit ASCII mode it asks for nothing
--   as_before      where the set says of that code what the rule of 1974 says, the service is what it was without a set
--   default_same   so it is, of every character, by the 1974 set
--   others_same    and by the 1974 set with another word on one code, of every character but that one
-- Not here: what a special code and an ordinary one leave, in Glottal; the service by any rule for a special code, in Rules.
-- Assumes nothing.
use Rattle.std.specs.Prelude.{◌≡◌, Bool, List, ◌≢◌, ℕ, ◌%◌}
use Rattle.std.proofs.Common.{◌∙◌}
use Rattle.ground.specs.Choose.{pick}
use Rattle.words.specs.Field.{get}
use Rattle.words.specs.Codes.{ASCII}
use Rattle.words.specs.Pointer.{at_end}
use Rattle.words.specs.Special.{is_special, set1974, special_in, with_code}
use Rattle.words.specs.laws.Special.{default_set, default_but_one}
use Rattle.unit.specs.declared.mux.Port.{Port}
use Rattle.input.specs.Input.{ascii, input_plan, input_service}
use Rattle.input.specs.laws.Kept.{icw_of}
use Rattle.input.specs.laws.Rules.{input_by, by_the_rules}

module _ (m : List ℕ) (a : ℕ) (q : Port) where
  pub same_word : (x y : List Bool) → special_in x q.ch.byte ≡ special_in y q.ch.byte → input_service x m a q ≡ input_service y m a q
  unfolding input_service
  same_word x y e = rw e

  pub unasked : (x y : List Bool) → get ASCII (icw_of m a) ≡ 0 → input_service x m a q ≡ input_service y m a q
  unfolding input_service input_plan ascii pick
  unasked x y e = rw e

  pub as_before : (codes : List Bool) → special_in codes q.ch.byte ≡ is_special q.ch.byte → input_service codes m a q ≡ input_by at_end is_special m a q
  unfolding input_by
  as_before codes e = by_the_rules codes m a q ∙ rw e

  pub default_same : input_service set1974 m a q ≡ input_by at_end is_special m a q
  default_same = as_before set1974 (default_set q.ch.byte)

  pub others_same : (c : ℕ) (t : Bool) → q.ch.byte % 128 ≢ c % 128 → input_service (with_code set1974 c t) m a q ≡ input_by at_end is_special m a q
  others_same c t n = as_before (with_code set1974 c t) (default_but_one c q.ch.byte t n)
