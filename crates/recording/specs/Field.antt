-- One field: an event as bytes, and bytes as an event (document 02, K8).
--   bytes_of, mark_in, marks_of   a number as so many bytes, high byte first; the set as a byte for each code
--   numbers_of, head_of, field   an event's numbers, its tag and length, and its whole field
--   pasted, Put            bytes put into a list from a place on
--   number_in, marks_in      a number, and a set, at the front of some bytes
--   marks, marks_fit        whether the bytes of a set are each 0 or 1
--   tag_in, length_in        the tag, and the length that is said, of the field at the front of some bytes
--   past, past_numbers, set_at, event_of, event_in   its event, part by part
--   read_fits               whether its values may stand there
--   data_rows, field_code    what is at fault: 13, 15, 14, 15, 21, in that order, or 0
-- Not here: one field after the other, in Scan and Pass; what follows, in laws/.
-- Assumes nothing.
use Rattle.std.specs.Prelude.{◌≡◌, ℕ, zero, suc, ◌+◌, ◌*◌, ◌/◌, ◌%◌, Bool, true, false, not, ◌&&◌, ◌||◌, List, [], ◌∷◌, ◌++◌, length, take, drop, replicate, ◌==◌, nat_eq, nat_le, nat_lt, slice_index, slice_index_or}
use Rattle.ground.specs.Choose.{bit, Row, row, first_of}
use Rattle.ground.specs.Tab.{tab}
use Rattle.recording.specs.Layout.{Width, Zero, One, Two, Four, Part, Layout, width_of, size, known, layout_of, numbers_length, data_length, field_length}
use Rattle.recording.specs.declared.event.Event.{Event}
use Rattle.recording.specs.Event.{UNKNOWN-TAG, WRONG-LENGTH, CUT-SHORT, BAD-VALUE, numbers_fit}

-- ---- an event as bytes

-- a number as so many bytes, the highest first
unfoldable pub bytes_of : Width → ℕ → List ℕ
bytes_of Zero n = []
bytes_of One n = n % 256 ∷ []
bytes_of Two n = n / 256 % 256 ∷ n % 256 ∷ []
bytes_of Four n = n / 65536 / 256 % 256 ∷ n / 65536 % 256 ∷ n / 256 % 256 ∷ n % 256 ∷ []

-- the set as a byte for each of the 128 codes, where the tag has a set
abbrev pub mark_in : List Bool → ℕ → ℕ
mark_in set k = bit (slice_index_or set k false)

unfoldable pub marks_of : Bool → List Bool → List ℕ
marks_of true set = tab 128 (mark_in set)
marks_of false set = []

-- the four numbers in the layout's widths
unfoldable pub numbers_of : Layout → Event → List ℕ
numbers_of l e =
    bytes_of (width_of l.first) e.first ++ (bytes_of (width_of l.second) e.second ++ (bytes_of (width_of l.third) e.third ++ bytes_of (width_of l.fourth) e.fourth))

-- the tag, and the two bytes of the length
abbrev pub head_of : ℕ → ℕ → List ℕ
head_of t n = t ∷ bytes_of Two n

-- the field: tag and length, and the data, which are the numbers and the set
unfoldable pub field : Event → List ℕ
field e = head_of e.tag (data_length (layout_of e.tag)) ++ (numbers_of (layout_of e.tag) e ++ marks_of (layout_of e.tag).set e.set)

-- a list with bytes put into it from a place on
abbrev pub pasted : ℕ → List ℕ → List ℕ → List ℕ
pasted at xs out = take at out ++ (xs ++ drop (at + length xs) out)

-- the place after them, the list, and that it is as long as it was
pub record Put (xs : List ℕ) (at : ℕ) (out : List ℕ) (r : ℕ) (after : List ℕ) : Type 0 where
  pub next : r ≡ at + length xs
  pub bytes : after ≡ pasted at xs out
  pub same : length after ≡ length out

-- ---- bytes as an event

-- the number at the front of some bytes
unfoldable pub number_in : Width → List ℕ → ℕ
number_in Zero bs = 0
number_in One bs = slice_index bs 0
number_in Two bs = slice_index bs 0 * 256 + slice_index bs 1
number_in Four bs = (slice_index bs 0 * 256 + slice_index bs 1) * 65536 + (slice_index bs 2 * 256 + slice_index bs 3)

-- the set at the front of some bytes, where the tag has one
unfoldable pub marks_in : Bool → List ℕ → List Bool
marks_in true bs = tab 128 (λ k. nat_eq (slice_index bs k) 1)
marks_in false bs = replicate 128 false

-- so many bytes at the front are each 0 or 1
unfoldable pub marks : ℕ → List ℕ → Bool
marks zero bs = true
marks (suc n) bs = nat_le (slice_index bs 0) 1 && marks n (drop 1 bs)

-- every byte of the set is 0 or 1, where the tag has one
abbrev pub marks_fit : Bool → List ℕ → Bool
marks_fit set bs = not set || marks 128 bs

-- a field's tag, and the length that it says
abbrev pub tag_in : List ℕ → ℕ
tag_in bs = slice_index bs 0

abbrev pub length_in : List ℕ → ℕ
length_in bs = number_in Two (drop 1 bs)

-- what is left after a part
abbrev pub past : Part → List ℕ → List ℕ
past p bs = drop (size (width_of p)) bs

-- what is left after the numbers: the set
abbrev pub past_numbers : Layout → List ℕ → List ℕ
past_numbers l bs = past l.fourth (past l.third (past l.second (past l.first bs)))

-- where the set stands in a field
abbrev pub set_at : Layout → ℕ
set_at l = 3 + numbers_length l

-- the event of some data
abbrev pub event_of : ℕ → Layout → List ℕ → Event
event_of t l bs =
    record {
      tag = t;
      first = number_in (width_of l.first) bs;
      second = number_in (width_of l.second) (past l.first bs);
      third = number_in (width_of l.third) (past l.second (past l.first bs));
      fourth = number_in (width_of l.fourth) (past l.third (past l.second (past l.first bs)));
      set = marks_in l.set (past_numbers l bs);
    }

-- and of a field
unfoldable pub event_in : List ℕ → Event
event_in bs = event_of (tag_in bs) (layout_of (tag_in bs)) (drop 3 bs)

-- every value of a field may stand where it is
unfoldable pub read_fits : List ℕ → Bool
read_fits bs = numbers_fit (layout_of (tag_in bs)) (event_in bs) && marks_fit (layout_of (tag_in bs)).set (past_numbers (layout_of (tag_in bs)) (drop 3 bs))

-- the last two rows: the data is cut short, or has what may not stand there
abbrev pub data_rows : List ℕ → ℕ → List Row
data_rows bs n = row CUT-SHORT (nat_lt (length bs) n) ∷ row BAD-VALUE (not (read_fits bs)) ∷ []

-- what is at fault in the field at the front of some bytes: 13, 15, 14, 15, 21
unfoldable pub field_code : List ℕ → ℕ
field_code bs =
    first_of
    (row UNKNOWN-TAG (not (known (tag_in bs)))
    ∷ row CUT-SHORT (nat_lt (length bs) 3)
    ∷ row WRONG-LENGTH (not (length_in bs == data_length (layout_of (tag_in bs))))
    ∷ data_rows bs (field_length (tag_in bs)))
