-- What the unit's set of special codes is to an output service (document 02, K5).
--   same_word      a service asks the set for its word on the byte that it fetches, and for nothing else
--   unasked        without a special request it asks for nothing
--   as_before      where the set says of that byte what the rule of 1974 says, the service is what it was without a set
--   default_same   so it is, of every byte, by the 1974 set
--   others_same    and by the 1974 set with another word on one code, of every byte but that one
-- Here, and not in specs/laws/Set, is what rests on other laws of specs/: an edit of a definition counts as refused where nothing in specs/ rests on the
-- law that it breaks.
-- Assumes nothing.
use Rattle.std.specs.Prelude.{◌≡◌, Bool, List, ◌≢◌, ℕ, ◌%◌}
use Rattle.std.proofs.Common.{◌∙◌}
use Rattle.ground.specs.Choose.{pick}
use Rattle.words.specs.Field.{get}
use Rattle.words.specs.Codes.{SPECIAL-REQUEST}
use Rattle.words.specs.Pointer.{at_end}
use Rattle.words.specs.Special.{is_special, set1974, special_in, with_code}
use Rattle.words.specs.laws.Special.{default_set, default_but_one}
use Rattle.unit.specs.declared.mux.Port.{Port}
use Rattle.output.specs.Output.{auto_plan, output_plan, output_service}
use Rattle.output.specs.laws.Kept.{stepped}
use Rattle.output.specs.laws.Rules.{ocw_of, fetched_of, output_by, by_the_rules}

module _ (m : List ℕ) (a : ℕ) (q : Port) where
  pub same_word : (x y : List Bool) → special_in x (fetched_of m a) ≡ special_in y (fetched_of m a) → output_service x m a q ≡ output_service y m a q
  unfolding output_service stepped
  same_word x y e = rw e

  pub unasked : (x y : List Bool) → get SPECIAL-REQUEST (ocw_of m a) ≡ 0 → output_service x m a q ≡ output_service y m a q
  unfolding output_service output_plan auto_plan pick
  unasked x y e = rw e

  pub as_before : (codes : List Bool) → special_in codes (fetched_of m a) ≡ is_special (fetched_of m a) → output_service codes m a q ≡ output_by at_end is_special m a q
  unfolding output_by
  as_before codes e = by_the_rules codes m a q ∙ rw e

  pub default_same : output_service set1974 m a q ≡ output_by at_end is_special m a q
  default_same = as_before set1974 (default_set (fetched_of m a))

  pub others_same : (c : ℕ) (t : Bool) → fetched_of m a % 128 ≢ c % 128 → output_service (with_code set1974 c t) m a q ≡ output_by at_end is_special m a q
  others_same c t n = as_before (with_code set1974 c t) (default_but_one c (fetched_of m a) t n)
