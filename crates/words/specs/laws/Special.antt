-- The special codes by ranges of the low seven bits (document 02, K4), and by a set (K5).
--   special_low, special_high   by the rule of 1974, 0 to 31 and 124 to 127 are special
--   ordinary_between            the codes between them are not
--   default_set, default_drawn  the 1974 set is that rule for every code; its 128 places
--   seven_bits                  a set is asked for the low seven bits alone
--   with_same, with_other       another word on one code: there it is that word, and on every other code what it was
--   default_but_one             the 1974 set with another word on one code is the rule of 1974 for every other
--   dictionary_bar, dictionary_others   so in the dictionary's set octal 174 is ordinary, and every other code as in 1974
--   ext_codes                   two sets of 128 places that say the same of every code are the same set
-- Not here: the definitions, in specs/Special; what becomes of a service by another set, in laws/Set of input and output.
-- Assumes nothing.
use Rattle.std.specs.Prelude.{◌≡◌, ℕ, ◌%◌, ◌<◌, ◌≤◌, Bool, true, false, ◌≢◌, List, ◌++◌, length, get_or, replicate, nat_lt, slice_index_or, refl}
use Rattle.std.proofs.Common.{◌∙◌, ap, sym, le_of_suc-le-suc, mod-eq_of_lt, arith, get_or-set_same, get_or-set_other, ext_get_or, lt-ltb, le-ltb}
use Rattle.std.proofs.Math.Bool.{or-true}
use Rattle.std.proofs.Math.Nat.{mod-mod}
use Rattle.ground.specs.Tab.{tab}
use Rattle.ground.specs.laws.Arrays.{tab_length, get_d_tab}
use Rattle.words.specs.Special.{is_special, set1974, special_in, with_code, dictionary_set}

-- ---- the rule of 1974

pub special_low : (c : ℕ) → c % 128 < 32 → is_special c ≡ true
unfolding is_special
special_low c h = simp (lt-ltb (c % 128) 32 h)

pub special_high : (c : ℕ) → 124 ≤ c % 128 → is_special c ≡ true
unfolding is_special
special_high c h = rw (lt-ltb 123 (c % 128) h) (or-true (nat_lt (c % 128) 32))

pub ordinary_between : (c : ℕ) → 32 ≤ c % 128 → c % 128 < 124 → is_special c ≡ false
unfolding is_special
ordinary_between c h k = simp (le-ltb (c % 128) 32 h, le-ltb 123 (c % 128) (le_of_suc-le-suc k))

-- ---- a set

-- two codes with the same low seven bits have the same word
pub seven_bits : (codes : List Bool) (c d : ℕ) → c % 128 ≡ d % 128 → special_in codes c ≡ special_in codes d
unfolding special_in
seven_bits codes c d e = ap (λ (k : ℕ). get_or codes k false) e

-- the default set is the rule of 1974, of every code
pub default_set : (c : ℕ) → special_in set1974 c ≡ is_special c
unfolding special_in set1974 is_special
default_set c = get_d_tab 128 is_special (c % 128) false (omega arith) ∙ rw (mod-mod c 128)

-- its 128 places, drawn
pub default_drawn : set1974 ≡ replicate 32 true ++ (replicate 92 false ++ replicate 4 true)
unfolding set1974 tab is_special
default_drawn = refl

-- ---- another word on one code

pub with_same : (codes : List Bool) (c d : ℕ) (t : Bool) → length codes ≡ 128 → d % 128 ≡ c % 128 → special_in (with_code codes c t) d ≡ t
unfolding special_in with_code
with_same codes c d t h e = ap (λ (k : ℕ). get_or (with_code codes c t) k false) e ∙ get_or-set_same codes (c % 128) t false (omega (arith, h))

pub with_other : (codes : List Bool) (c d : ℕ) (t : Bool) → d % 128 ≢ c % 128 → special_in (with_code codes c t) d ≡ special_in codes d
unfolding special_in with_code
with_other codes c d t n = get_or-set_other codes (c % 128) (d % 128) t false n

-- the 1974 set with another word on c: the rule of 1974, of every other code
pub default_but_one : (c d : ℕ) (t : Bool) → d % 128 ≢ c % 128 → special_in (with_code set1974 c t) d ≡ is_special d
default_but_one c d t n = with_other set1974 c d t n ∙ default_set d

pub dictionary_bar : (c : ℕ) → c % 128 ≡ 0o174 → special_in dictionary_set c ≡ false
unfolding set1974
dictionary_bar c e = with_same set1974 0o174 c false (tab_length 128 is_special) e

pub dictionary_others : (c : ℕ) → c % 128 ≢ 0o174 → special_in dictionary_set c ≡ is_special c
dictionary_others c n = default_but_one 0o174 c false n

-- ---- a set is what it says

pub ext_codes : (x y : List Bool) → length x ≡ 128 → length y ≡ 128 → ((c : ℕ) → special_in x c ≡ special_in y c) → x ≡ y
unfolding special_in
ext_codes x y h k e = ext_get_or false x y (h ∙ sym k) at_place
  where
    at_place : (c : ℕ) → c < length x → slice_index_or x c false ≡ slice_index_or y c false
    at_place c l = rw (mod-eq_of_lt {n = c} {m = 128} (omega (arith, h, l))) at (e c)
