-- Special and ordinary codes (document 01, Input 5 and Output 01; 001, 4.1 bit 3 and 4.2 bit 3), and a school's own choice of them (document
-- 02, K5; 000, 3.7.9). A set has a yes or no for each of the 128 seven-bit codes.
--   is_special   the rule of 1974
--   set1974     the set of that rule: 000's standard set, the default
--   special_in   a code by a set: the one test of a unit
--   with_code    a set with another word on one code
--   dictionary_set   the one that the dictionary wants: octal 174 ordinary, all else as in 1974
-- Not here: what is done with a special code, in input and output; where a unit keeps its set, in unit's Record.
-- Assumes nothing.
use Rattle.std.specs.Prelude.{ℕ, ◌%◌, Bool, false, ◌||◌, List, nat_lt, slice_index_or, slice_set}
use Rattle.ground.specs.Tab.{tab}

-- the low seven bits are below octal 40 or above octal 173
unfoldable pub is_special : ℕ → Bool
is_special c = nat_lt (c % 128) 0o40 || nat_lt 0o173 (c % 128)

-- the rule's word on each code
unfoldable pub set1974 : List Bool
set1974 = tab 128 is_special

-- the set's word on the low seven bits
unfoldable pub special_in : List Bool → ℕ → Bool
special_in codes c = slice_index_or codes (c % 128) false

-- the set, but for its word on the low seven bits of c
unfoldable pub with_code : List Bool → ℕ → Bool → List Bool
with_code codes c special = slice_set codes (c % 128) special

-- the 1974 set with octal 174, the glottal stop, ordinary
abbrev pub dictionary_set : List Bool
dictionary_set = with_code set1974 0o174 false
