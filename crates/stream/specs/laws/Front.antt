-- What the first bytes of a field decide, whatever follows them.
--   field_most                 no field has more than 144 bytes
--   number_front, past_front, set_front, marked_front   a number at the front of some bytes, what is left after it, and a set
--   of_set, of_marks, of_data  the data, part by part
--   event_front, fits_front    the event, and whether its values may stand there, once as many bytes are there as the field has
--   rows_stay, rows_cut        the five rows of what is at fault, by their tests
--   code_front                 what is at fault stays so, but for 15
--   cut_room                   a field that is cut short has fewer bytes than its tag's
-- Not here: one byte after the other, in Stands.
-- Assumes nothing.
use Rattle.std.specs.Prelude.{◌≡◌, ℕ, zero, suc, ◌-◌, ◌<◌, ◌≤◌, Bool, true, false, not, ◌&&◌, ◌⊎◌, List, [], ◌∷◌, ◌++◌, length, drop, ◌==◌, ◌≢◌, nat_eq, nat_le, nat_lt, slice_index}
use Rattle.std.proofs.Math.Path.{refl, ap}
use Rattle.std.proofs.Common.{◌∙◌, inl, inr, ⊎_elim, le_of_suc-le-suc, not-suc-le-zero, arith, length-append, length-drop, ltb-true, ltb-false, le-ltb}
use Rattle.std.proofs.Math.ListN.{get_or-append}
use Rattle.std.proofs.lemmas.List.{drop-append-le}
use Rattle.ground.specs.Choose.{pick, row, first_of}
use Rattle.ground.specs.laws.Arrays.{tab_ext}
use Rattle.recording.specs.Layout.{Width, Zero, One, Two, Four, Part, Layout, width_of, size, known, layout_of, numbers_length, data_length, field_length}
use Rattle.recording.specs.Event.{UNKNOWN-TAG, WRONG-LENGTH, CUT-SHORT, BAD-VALUE}
use Rattle.recording.specs.Field.{number_in, marks_in, marks, marks_fit, tag_in, length_in, past, past_numbers, event_of, event_in, read_fits, field_code}
use Rattle.recording.specs.laws.Layout.{data_marked, numbers_within}

-- no field is longer
pub field_most : (t : ℕ) → field_length t ≤ 144
unfolding layout_of data_length width_of size pick
field_most zero = omega arith
field_most (suc zero) = omega arith
field_most (suc (suc zero)) = omega arith
field_most (suc (suc (suc zero))) = omega arith
field_most (suc (suc (suc (suc zero)))) = omega arith
field_most (suc (suc (suc (suc (suc zero))))) = omega arith
field_most (suc (suc (suc (suc (suc (suc zero)))))) = omega arith
field_most (suc (suc (suc (suc (suc (suc (suc t))))))) = omega arith

module _ (ys : List ℕ) where
  -- a number whose bytes are all there
  pub number_front : (w : Width) (xs : List ℕ) → size w ≤ length xs → number_in w (xs ++ ys) ≡ number_in w xs
  unfolding number_in size
  number_front Zero xs h = refl
  number_front One xs h = get_or-append xs ys 0 0 h
  number_front Two xs h = rw (get_or-append xs ys 0 0 (omega (arith, h)), get_or-append xs ys 0 1 h) refl
  number_front Four xs h =
      rw (get_or-append xs ys 0 0 (omega (arith, h)), get_or-append xs ys 0 1 (omega (arith, h)), get_or-append xs ys 0 2 (omega (arith, h)), get_or-append xs ys 0 3 h) refl

  -- and what is left after it
  past_front : (p : Part) (xs : List ℕ) → size (width_of p) ≤ length xs → past p (xs ++ ys) ≡ past p xs ++ ys
  past_front p xs h = drop-append-le (size (width_of p)) xs ys h

  -- a set whose bytes are all there
  set_front : (xs : List ℕ) → 128 ≤ length xs → marks_in true (xs ++ ys) ≡ marks_in true xs
  unfolding marks_in
  set_front xs h = tab_ext 128 (λ k. nat_eq (slice_index (xs ++ ys) k) 1) (λ k. nat_eq (slice_index xs k) 1) (λ k l. ap (λ (x : ℕ). nat_eq x 1) (get_or-append xs ys 0 k (omega (arith, h, l))))

  marked_front : (n : ℕ) (xs : List ℕ) → n ≤ length xs → marks n (xs ++ ys) ≡ marks n xs
  unfolding marks
  marked_front zero xs h = refl
  marked_front (suc n) [] h = absurd (not-suc-le-zero h)
  marked_front (suc n) (x ∷ xs) h = ap (λ (t : Bool). nat_le x 1 && t) (marked_front n xs (le_of_suc-le-suc h))

  module _ (l : Layout) (xs : List ℕ) (h : data_length l ≤ length xs) where
    -- what is left after each number, and that the numbers are all there
    abbrev two : List ℕ
    two = past l.first xs

    abbrev three : List ℕ
    three = past l.second two

    abbrev four : List ℕ
    four = past l.third three

    abbrev five : List ℕ
    five = past l.fourth four

    room : (numbers_length l ≤ length xs) × (length two ≡ length xs - size (width_of l.first)) × (length three ≡ length two - size (width_of l.second)) × (length four ≡ length three - size (width_of l.third)) × (length five ≡ length four - size (width_of l.fourth))
    room = (omega (arith, h, numbers_within l), length-drop (size (width_of l.first)) xs, length-drop (size (width_of l.second)) two, length-drop (size (width_of l.third)) three, length-drop (size (width_of l.fourth)) four)

    past_two : past l.first (xs ++ ys) ≡ two ++ ys
    past_two = past_front l.first xs (omega (arith, room))

    past_three : past l.second (past l.first (xs ++ ys)) ≡ three ++ ys
    past_three = ap (λ (zs : List ℕ). past l.second zs) past_two ∙ past_front l.second two (omega (arith, room))

    past_four : past l.third (past l.second (past l.first (xs ++ ys))) ≡ four ++ ys
    past_four = ap (λ (zs : List ℕ). past l.third zs) past_three ∙ past_front l.third three (omega (arith, room))

    past_five : past_numbers l (xs ++ ys) ≡ five ++ ys
    past_five = ap (λ (zs : List ℕ). past l.fourth zs) past_four ∙ past_front l.fourth four (omega (arith, room))

    marks_room : l.set ≡ true → 128 ≤ length five
    marks_room e = omega (arith, h, room, data_marked l e)

    -- the set, where there is one
    of_set : marks_in l.set (past_numbers l (xs ++ ys)) ≡ marks_in l.set five
    unfolding marks_in
    of_set = ap (λ (zs : List ℕ). marks_in l.set zs) past_five ∙ go l.set marks_room
      where
        go : (t : Bool) → (t ≡ true → 128 ≤ length five) → marks_in t (five ++ ys) ≡ marks_in t five
        go true m = set_front five (m refl)
        go false m = refl

    of_marks : marks_fit l.set (past_numbers l (xs ++ ys)) ≡ marks_fit l.set five
    of_marks = ap (λ (zs : List ℕ). marks_fit l.set zs) past_five ∙ go l.set marks_room
      where
        go : (t : Bool) → (t ≡ true → 128 ≤ length five) → marks_fit t (five ++ ys) ≡ marks_fit t five
        go true m = marked_front 128 five (m refl)
        go false m = refl

    of_data : (t : ℕ) → event_of t l (xs ++ ys) ≡ event_of t l xs
    of_data t =
        rw (
          number_front (width_of l.first) xs (omega (arith, room)),
          ap (λ (zs : List ℕ). number_in (width_of l.second) zs) past_two ∙ number_front (width_of l.second) two (omega (arith, room)),
          ap (λ (zs : List ℕ). number_in (width_of l.third) zs) past_three ∙ number_front (width_of l.third) three (omega (arith, room)),
          ap (λ (zs : List ℕ). number_in (width_of l.fourth) zs) past_four ∙ number_front (width_of l.fourth) four (omega (arith, room)),
          of_set,
        )
        refl

  -- as many bytes are there as the field has: the data is all there
  all_there : (t : ℕ) (xs : List ℕ) → field_length t ≤ length xs → data_length (layout_of t) ≤ length (drop 3 xs)
  all_there t xs h = omega (arith, h, length-drop 3 xs)

  data_front : (t : ℕ) (xs : List ℕ) → field_length t ≤ length xs → drop 3 (xs ++ ys) ≡ drop 3 xs ++ ys
  data_front t xs h = drop-append-le 3 xs ys (omega (arith, h))

  pub event_front : (xs : List ℕ) → field_length (tag_in xs) ≤ length xs → event_in (xs ++ ys) ≡ event_in xs
  unfolding event_in
  event_front [] h = absurd (omega (arith, h))
  event_front (t ∷ xs) h = ap (λ (zs : List ℕ). event_of t (layout_of t) zs) (data_front t (t ∷ xs) h) ∙ of_data (layout_of t) (drop 3 (t ∷ xs)) (all_there t (t ∷ xs) h) t

  fits_front : (xs : List ℕ) → field_length (tag_in xs) ≤ length xs → read_fits (xs ++ ys) ≡ read_fits xs
  unfolding read_fits
  fits_front [] h = absurd (omega (arith, h))
  fits_front (t ∷ xs) h =
      let l = layout_of t in
      rw (
        event_front (t ∷ xs) h,
        ap (λ (zs : List ℕ). marks_fit l.set (past_numbers l zs)) (data_front t (t ∷ xs) h) ∙ of_marks l (drop 3 (t ∷ xs)) (all_there t (t ∷ xs) h),
      )
      refl

-- the five rows by their tests
abbrev rows : Bool → Bool → Bool → Bool → Bool → ℕ
rows a b c d e = first_of (row UNKNOWN-TAG a ∷ row CUT-SHORT b ∷ row WRONG-LENGTH c ∷ row CUT-SHORT d ∷ row BAD-VALUE e ∷ [])

-- where the answer is not 15, no row of 15 applies before it; so it stays if these rows stay so and the others do not change
rows_stay : (a b c d e b' c' d' e' : Bool) → (rows a b c d e ≢ 15) → (b ≡ false → (b' ≡ false) × (c' ≡ c)) → (d ≡ false → (d' ≡ false) × (e' ≡ e)) → rows a b' c' d' e' ≡ rows a b c d e
unfolding first_of pick
rows_stay true b c d e b' c' d' e' n p q = refl
rows_stay false true c d e b' c' d' e' n p q = absurd (n refl)
rows_stay false false true d e b' c' d' e' n p q = rw ((p refl).0, (p refl).1) refl
rows_stay false false false true e b' c' d' e' n p q = absurd (n refl)
rows_stay false false false false e b' c' d' e' n p q = rw ((p refl).0, (p refl).1, (q refl).0, (q refl).1) refl

-- where it is 15, one of the two rows of 15 applies
rows_cut : (a b c d e : Bool) → rows a b c d e ≡ 15 → (b ≡ true) ⊎ (d ≡ true)
unfolding first_of pick
rows_cut true b c d e h = absurd (omega (arith, h))
rows_cut false true c d e h = inl refl
rows_cut false false true d e h = absurd (omega (arith, h))
rows_cut false false false true e h = inr refl
rows_cut false false false false true h = absurd (omega (arith, h))
rows_cut false false false false false h = absurd (omega (arith, h))

-- what is at fault stays so whatever follows, but for 15
pub code_front : (xs ys : List ℕ) → 0 < length xs → (field_code xs ≢ CUT-SHORT) → field_code (xs ++ ys) ≡ field_code xs
unfolding field_code size
code_front [] ys h n = absurd (not-suc-le-zero h)
code_front (x ∷ xs) ys h n =
    let l = layout_of x in
    let zs = x ∷ xs in
    rows_stay
    (not (known x))
    (nat_lt (length zs) 3)
    (not (length_in zs == data_length l))
    (nat_lt (length zs) (field_length x))
    (not (read_fits zs))
    (nat_lt (length (zs ++ ys)) 3)
    (not (length_in (zs ++ ys) == data_length l))
    (nat_lt (length (zs ++ ys)) (field_length x))
    (not (read_fits (zs ++ ys)))
    n
    (λ e.
    let h = ltb-false (length zs) 3 e in (
      le-ltb (length (zs ++ ys)) 3 (omega (arith, h, length-append zs ys)),
      ap (λ (k : ℕ). not (k == data_length l)) (number_front ys Two xs (omega (arith, h))),
    ))
    (λ e.
    let h = ltb-false (length zs) (field_length x) e in (
      le-ltb (length (zs ++ ys)) (field_length x) (omega (arith, h, length-append zs ys)),
      ap not (fits_front ys zs h),
    ))

-- a field that is cut short is shorter than its tag's
pub cut_room : (xs : List ℕ) → field_code xs ≡ CUT-SHORT → length xs < field_length (tag_in xs)
unfolding field_code
cut_room xs e =
    ⊎_elim
    (λ h. omega (arith, ltb-true (length xs) 3 h))
    (λ h. ltb-true (length xs) (field_length (tag_in xs)) h)
    (rows_cut (not (known (tag_in xs))) (nat_lt (length xs) 3) (not (length_in xs == data_length (layout_of (tag_in xs)))) (nat_lt (length xs) (field_length (tag_in xs))) (not (read_fits xs)) e)
