-- The layout of a recording's fields: the one table (document 02, K8). Each cell is a byte, | ends a part; offsets count from the tag:
--     setup        01 | 00 8D | kind | block  .  .  . | ports  .  .  . | base  .  .  . | set 0 | set 1 | ... | set 127
--                  0    1       3      4                8                12              16                    143
--     arrival      02 | 00 07 | port  .  .  . | character | parity | break
--     empty        03 | 00 04 | port  .  .  .
--     status       04 | 00 05 | port  .  .  . | level
--     sweep        05 | 00 08 | n  .  .  . | list  .  .  .
--     host write   06 | 00 04 | address  . | word  .
--     the others   07 to 0F | 00 00: inspection, reset, IOPLS, START, DOC, DOB, DIA, DIAS, tick
--   Width, Part, Layout   how wide a part is, what may stand in it, and a tag's parts
--   wide, width_in, part_of, layout_in   the same as the code has them
--   width_of, size     how many bytes a part takes
--   most              the greatest number that may stand in it
--   known             the tags that there are
--   layouts, layout_of   the parts of each tag's data
--   numbers_length, data_length, field_length   how many bytes the numbers take, the data, the field
-- Not here: what a tag's parts mean to a unit, in replay; what follows, in laws/Layout.
-- Assumes nothing.
use Rattle.std.specs.Prelude.{ℕ, Option, None, Some, ◌+◌, Bool, true, false, ◌&&◌, List, [], ◌∷◌, nat_lt, slice_index_or}
use Rattle.ground.specs.Choose.{pick}
use Rattle.recording.specs.declared.layout.Width as Widths
use Rattle.recording.specs.declared.layout.Width.TheVariants as Wide
use Rattle.recording.specs.declared.layout.Part as Parts
use Rattle.recording.specs.declared.layout.Part.TheVariants as Kinds
use Rattle.recording.specs.declared.layout.Layout as Layouts

-- how wide a part is: no byte, one, two, four
pub data Width : Type 0 where
  Zero : Width
  One : Width
  Two : Width
  Four : Width

-- what may stand in a part: nothing, a yes or no, a kind of unit, a byte, a word's address, a word, any number
pub data Part : Type 0 where
  Unused : Part
  YesNo : Part
  Kind : Part
  Byte : Part
  Address : Part
  Word : Part
  Number : Part

-- four parts, and whether the special set follows them
pub record Layout : Type 0 where
  pub first : Part
  pub second : Part
  pub third : Part
  pub fourth : Part
  pub set : Bool

-- ---- the code's, which has no part where a tag uses none, and so no width of no byte

abbrev pub wide : Widths.Width → Width
wide Wide.One = One
wide Wide.Two = Two
wide Wide.Four = Four

abbrev pub width_in : Option Widths.Width → Width
width_in None = Zero
width_in (Some w) = wide w

abbrev pub part_of : Option Parts.Part → Part
part_of None = Unused
part_of (Some Kinds.YesNo) = YesNo
part_of (Some Kinds.Kind) = Kind
part_of (Some Kinds.Byte) = Byte
part_of (Some Kinds.Address) = Address
part_of (Some Kinds.Word) = Word
part_of (Some Kinds.Number) = Number

abbrev pub layout_in : Layouts.Layout → Layout
layout_in l =
    record {
      first = part_of (slice_index_or l.parts 0 None);
      second = part_of (slice_index_or l.parts 1 None);
      third = part_of (slice_index_or l.parts 2 None);
      fourth = part_of (slice_index_or l.parts 3 None);
      set = l.set;
    }

-- ---- the table

-- how many bytes a part takes
unfoldable pub width_of : Part → Width
width_of Unused = Zero
width_of YesNo = One
width_of Kind = One
width_of Byte = One
width_of Address = Two
width_of Word = Two
width_of Number = Four

unfoldable pub size : Width → ℕ
size Zero = 0
size One = 1
size Two = 2
size Four = 4

-- the greatest number that may stand in a part; an unused one is 0
unfoldable pub most : Part → ℕ
most Unused = 0
most YesNo = 1
most Kind = 1
most Byte = 255
most Address = 32767
most Word = 65535
most Number = 4294967295

-- a tag's parts in their order, and whether the set follows them
abbrev pub parts : Part → Part → Part → Part → Bool → Layout
parts a b c d s = record { first = a; second = b; third = c; fourth = d; set = s }

abbrev pub no_parts : Layout
no_parts = parts Unused Unused Unused Unused false

-- tags 1 to 15 (13 is any other)
abbrev pub known : ℕ → Bool
known t = nat_lt 0 t && nat_lt t 16

-- the table, tag 0 first; inspection (7), reset (8), IOPLS (9), START (10), DOC (11), DOB (12), DIA (13), DIAS (14) and the tick (15) have no data
abbrev pub layouts : List Layout
layouts =
    no_parts
    -- 1 setup: kind, block size, number of ports, base, and the set
    ∷ parts Kind Number Number Number true
    -- 2 a character arrives: port, character, parity mark, break mark
    ∷ parts Number Byte YesNo YesNo false
    -- 3 transmitter empty: port
    ∷ parts Number Unused Unused Unused false
    -- 4 Device Status line: port, level
    ∷ parts Number YesNo Unused Unused false
    -- 5 sweep: n, length of the list
    ∷ parts Number Number Unused Unused false
    -- 6 host write: address, word
    ∷ parts Address Word Unused Unused false
    ∷ []

unfoldable pub layout_of : ℕ → Layout
layout_of t = slice_index_or layouts t no_parts

-- how many bytes the four numbers take
abbrev pub numbers_length : Layout → ℕ
numbers_length l = size (width_of l.first) + size (width_of l.second) + size (width_of l.third) + size (width_of l.fourth)

-- and the whole data: 128 more for the set
unfoldable pub data_length : Layout → ℕ
data_length l = numbers_length l + pick l.set 128 0

-- and with the tag and the two length bytes
abbrev pub field_length : ℕ → ℕ
field_length t = 3 + data_length (layout_of t)
