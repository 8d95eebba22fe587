-- The table of a recording: how long things are.
--   bytes_length        a number takes as many bytes as its width says
--   size_at_most        none takes more than four
--   numbers_length_lem      the four numbers take as many as the layout says
--   data_marked, data_bare, data_most, numbers_within   the data with a set and without
--   marks_length, field_length_lem   the set, and the whole field
--   layout_past, layout_other   a tag past the table, or none of those with data, has no parts
-- Not here: the table, in Layout.
-- Assumes nothing.
use Rattle.std.specs.Prelude.{◌≡◌, ℕ, zero, suc, ◌+◌, ◌≤◌, Bool, true, false, List, ◌++◌, length, ◌≢◌, refl}
use Rattle.std.proofs.Common.{sym, ◌∙◌, ap, true≢false, add-zero, le-add_right, arith, length-append}
use Rattle.std.proofs.Math.ListN.{get_or-eq_default}
use Rattle.ground.specs.Choose.{pick}
use Rattle.ground.specs.laws.Arrays.{tab_length}
use Rattle.ground.specs.laws.Rows.{pick_true, pick-false}
use Rattle.recording.specs.Layout.{Width, Zero, One, Two, Four, Layout, width_of, size, no_parts, layouts, layout_of, numbers_length, data_length, field_length}
use Rattle.recording.specs.declared.event.Event.{Event}
use Rattle.recording.specs.Field.{bytes_of, numbers_of, mark_in, marks_of, field}

pub bytes_length : (w : Width) (n : ℕ) → length (bytes_of w n) ≡ size w
unfolding bytes_of size
bytes_length Zero n = refl
bytes_length One n = refl
bytes_length Two n = refl
bytes_length Four n = refl

pub size_at_most : (w : Width) → size w ≤ 4
unfolding size
size_at_most Zero = omega arith
size_at_most One = omega arith
size_at_most Two = omega arith
size_at_most Four = omega arith

pub layout_past : (t : ℕ) → 7 ≤ t → layout_of t ≡ no_parts
unfolding layout_of
layout_past t h = get_or-eq_default layouts no_parts {n = t} h

-- the four numbers take as many as the layout says
pub numbers_length_lem : (l : Layout) (e : Event) → length (numbers_of l e) ≡ numbers_length l
unfolding numbers_of
numbers_length_lem l e =
    let one = bytes_of (width_of l.first) e.first in
    let two = bytes_of (width_of l.second) e.second in
    let three = bytes_of (width_of l.third) e.third in
    let four = bytes_of (width_of l.fourth) e.fourth in
    omega (
      arith,
      length-append one (two ++ (three ++ four)),
      length-append two (three ++ four),
      length-append three four,
      bytes_length (width_of l.first) e.first,
      bytes_length (width_of l.second) e.second,
      bytes_length (width_of l.third) e.third,
      bytes_length (width_of l.fourth) e.fourth,
    )

-- the set takes 128 bytes, or none
pub marks_length : (t : Bool) (set : List Bool) → (t ≡ true → length (marks_of t set) ≡ 128) × (t ≡ false → length (marks_of t set) ≡ 0)
unfolding marks_of
marks_length true set = (λ e. tab_length 128 (mark_in set), λ e. absurd (true≢false e))
marks_length false set = (λ e. absurd (true≢false (sym e)), λ e. refl)

-- with a set, and without
pub data_marked : (l : Layout) → l.set ≡ true → data_length l ≡ numbers_length l + 128
unfolding data_length
data_marked l e = ap (λ (n : ℕ). numbers_length l + n) (pick_true l.set 128 0 e)

pub data_bare : (l : Layout) → l.set ≡ false → data_length l ≡ numbers_length l
unfolding data_length
data_bare l e = ap (λ (n : ℕ). numbers_length l + n) (pick-false l.set 128 0 e) ∙ add-zero (numbers_length l)

pub data_most : (l : Layout) → data_length l ≤ 144
data_most l = go l.set refl
  where
    sizes : numbers_length l ≤ 16
    sizes = omega (arith, size_at_most (width_of l.first), size_at_most (width_of l.second), size_at_most (width_of l.third), size_at_most (width_of l.fourth))

    go : (t : Bool) → l.set ≡ t → data_length l ≤ 144
    go true e = omega (arith, sizes, data_marked l e)
    go false e = omega (arith, sizes, data_bare l e)

pub numbers_within : (l : Layout) → numbers_length l ≤ data_length l
unfolding data_length
numbers_within l = le-add_right (numbers_length l) (pick l.set 128 0)

-- a tag that is none of the six with data
pub layout_other : (t : ℕ) → (t ≢ 1) → (t ≢ 2) → (t ≢ 3) → (t ≢ 4) → (t ≢ 5) → (t ≢ 6) → layout_of t ≡ no_parts
unfolding layout_of
layout_other zero a b c d e f = refl
layout_other (suc zero) a b c d e f = absurd (a refl)
layout_other (suc (suc zero)) a b c d e f = absurd (b refl)
layout_other (suc (suc (suc zero))) a b c d e f = absurd (c refl)
layout_other (suc (suc (suc (suc zero)))) a b c d e f = absurd (d refl)
layout_other (suc (suc (suc (suc (suc zero))))) a b c d e f = absurd (e refl)
layout_other (suc (suc (suc (suc (suc (suc zero)))))) a b c d e f = absurd (f refl)
layout_other (suc (suc (suc (suc (suc (suc (suc t))))))) a b c d e f = refl

-- a field has as many bytes as its tag says
pub field_length_lem : (e : Event) → length (field e) ≡ field_length e.tag
unfolding field bytes_of
field_length_lem e = go (layout_of e.tag).set refl
  where
    go : (t : Bool) → (layout_of e.tag).set ≡ t → suc (suc (suc (length (numbers_of (layout_of e.tag) e ++ marks_of (layout_of e.tag).set e.set)))) ≡ field_length e.tag
    go true m = omega (arith, length-append (numbers_of (layout_of e.tag) e) (marks_of (layout_of e.tag).set e.set), numbers_length_lem (layout_of e.tag) e, data_marked (layout_of e.tag) m, (marks_length (layout_of e.tag).set e.set).0 m)
    go false m = omega (arith, length-append (numbers_of (layout_of e.tag) e) (marks_of (layout_of e.tag).set e.set), numbers_length_lem (layout_of e.tag) e, data_bare (layout_of e.tag) m, (marks_length (layout_of e.tag).set e.set).1 m)
