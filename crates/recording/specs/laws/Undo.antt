-- One event and one field: each is the other's.
--   Bytes, bytes_drop        every number of a list is a byte
--   part_read, part_past, width_write   a number put and read, what follows it, and a number read and put
--   marks_read, marks_put, marks_write   the same of the set
--   Whole                    an event whose set has its 128 places, as every value of the type has
--   event_back, code_back    the field of an event reads as the event, whatever follows it
--   field_back, event_sound, event_whole, tag_is   the event of a good field has that field
-- Not here: lists of them, in laws/Trips.
-- Assumes nothing.
use Rattle.std.specs.Prelude.{◌≡◌, ℕ, zero, suc, ◌+◌, ◌*◌, ◌/◌, ◌%◌, ◌<◌, ◌≤◌, Bool, true, false, ◌&&◌, ◌||◌, leb, List, [], ◌∷◌, ◌++◌, length, get_or, drop, replicate, ◌==◌, nat_eq, nat_le, slice_index, slice_index_or, refl}
use Rattle.std.proofs.Common.{sym, ◌∙◌, true≢false, le_of_suc-le-suc, not-suc-le-zero, arith, length-append, drop-drop, append_assoc, leb-true, le-leb}
use Rattle.std.proofs.Math.Path.{ap}
use Rattle.std.proofs.Math.ListN.{length-drop, get_or-append}
use Rattle.ground.specs.Choose.{bit}
use Rattle.ground.specs.Tab.{tab}
use Rattle.ground.specs.laws.Rows.{and-true}
use Rattle.ground.specs.laws.Arrays.{tab_length, get_d_tab, tab_ext, tab_self}
use Rattle.recording.specs.Layout.{Width, Zero, One, Two, Four, Part, Unused, YesNo, Kind, Byte, Address, Word, Number, Layout, width_of, size, most, known, layout_of, numbers_length, data_length, field_length}
use Rattle.recording.specs.declared.event.Event.{Event}
use Rattle.recording.specs.Event.{numbers_fit, none_marked, event_fits, event_code}
use Rattle.recording.specs.Field.{bytes_of, mark_in, marks_of, numbers_of, field, number_in, marks_in, marks, marks_fit, tag_in, length_in, past, past_numbers, event_of, event_in, read_fits, field_code}
use Rattle.recording.specs.laws.Layout.{field_length_lem, data_most, numbers_within, data_marked, data_bare}
use Rattle.recording.specs.laws.Codes.{Good, good_code, Sound, sound_code}

-- ---- bytes

abbrev pub Bytes : List ℕ → Type 0
Bytes [] = Unit {0}
Bytes (b ∷ bs) = (b < 256) × Bytes bs

pub bytes_drop : (n : ℕ) (bs : List ℕ) → Bytes bs → Bytes (drop n bs)
bytes_drop zero bs h = h
bytes_drop (suc n) [] h = tt
bytes_drop (suc n) (b ∷ bs) h = bytes_drop n bs h.1

-- ---- numbers

-- a number that may stand in its part is read again
pub part_read : (p : Part) (n : ℕ) (ys : List ℕ) → n ≤ most p → number_in (width_of p) (bytes_of (width_of p) n ++ ys) ≡ n
unfolding width_of most bytes_of number_in
part_read Unused n ys h = omega (arith, h)
part_read YesNo n ys h = omega (arith, h)
part_read Kind n ys h = omega (arith, h)
part_read Byte n ys h = omega (arith, h)
part_read Address n ys h = omega (arith, h)
part_read Word n ys h = omega (arith, h)
part_read Number n ys h = omega (arith, h)

-- and what follows it is left
width_past : (w : Width) (n : ℕ) (ys : List ℕ) → drop (size w) (bytes_of w n ++ ys) ≡ ys
unfolding size bytes_of
width_past Zero n ys = refl
width_past One n ys = refl
width_past Two n ys = refl
width_past Four n ys = refl

pub part_past : (p : Part) (n : ℕ) (ys : List ℕ) → past p (bytes_of (width_of p) n ++ ys) ≡ ys
part_past p n ys = width_past (width_of p) n ys

-- two bytes are those of their number, and four
two_bytes : (a b : ℕ) → a < 256 → b < 256 → ((a * 256 + b) / 256 % 256 ≡ a) × ((a * 256 + b) % 256 ≡ b)
two_bytes a b h k = (omega (arith, h, k), omega (arith, h, k))

halves : (m n : ℕ) → n < 65536 → ((m * 65536 + n) / 65536 ≡ m) × ((m * 65536 + n) / 256 % 256 ≡ n / 256 % 256) × ((m * 65536 + n) % 256 ≡ n % 256)
halves m n h = (omega (arith, h), omega (arith, h), omega (arith, h))

-- bytes read as a number are put again
pub width_write : (w : Width) (bs : List ℕ) → Bytes bs → size w ≤ length bs → bytes_of w (number_in w bs) ++ drop (size w) bs ≡ bs
unfolding size bytes_of number_in
width_write Zero bs h l = refl
width_write One [] h l = absurd (not-suc-le-zero l)
width_write One (a ∷ bs) h l = ap (λ (x : ℕ). x ∷ bs) (omega (arith, h.0))
width_write Two [] h l = absurd (not-suc-le-zero l)
width_write Two (a ∷ []) h l = absurd (not-suc-le-zero (le_of_suc-le-suc l))
width_write Two (a ∷ b ∷ bs) h l = let t = two_bytes a b h.0 h.1.0 in rw (t.0, t.1) refl
width_write Four [] h l = absurd (not-suc-le-zero l)
width_write Four (a ∷ []) h l = absurd (not-suc-le-zero (le_of_suc-le-suc l))
width_write Four (a ∷ b ∷ []) h l = absurd (not-suc-le-zero (le_of_suc-le-suc (le_of_suc-le-suc l)))
width_write Four (a ∷ b ∷ c ∷ []) h l = absurd (not-suc-le-zero (le_of_suc-le-suc (le_of_suc-le-suc (le_of_suc-le-suc l))))
width_write Four (a ∷ b ∷ c ∷ d ∷ bs) h l =
    let t = two_bytes a b h.0 h.1.0 in
    let u = two_bytes c d h.1.1.0 h.1.1.1.0 in
    let v = halves (a * 256 + b) (c * 256 + d) (omega (arith, h.1.1.0, h.1.1.1.0)) in
    rw (v.0, v.1, v.2, t.0, t.1, u.0, u.1) refl

-- ---- the set

-- a mark is its own byte, and a byte that is a mark is its own yes or no
bit_is : (b : Bool) → (bit b == 1) ≡ b
unfolding bit
bit_is true = refl
bit_is false = refl

mark_is : (n : ℕ) → n ≤ 1 → bit (n == 1) ≡ n
unfolding bit
mark_is zero h = refl
mark_is (suc zero) h = refl
mark_is (suc (suc n)) h = absurd (not-suc-le-zero (le_of_suc-le-suc h))

bit_most : (b : Bool) → bit b ≤ 1
unfolding bit
bit_most true = omega arith
bit_most false = omega arith

-- the element of a list by its rule, with something behind it
rule_in : {A : Type 0} (n : ℕ) (f : ℕ → A) (ys : List A) (k : ℕ) (d : A) → k < n → slice_index_or (tab n f ++ ys) k d ≡ f k
rule_in n f ys k d h = get_or-append (tab n f) ys d k (omega (arith, h, tab_length n f)) ∙ get_d_tab n f k d h

pub marks_read : (set : List Bool) (ys : List ℕ) → length set ≡ 128 → marks_in true (marks_of true set ++ ys) ≡ set
unfolding marks_in marks_of
marks_read set ys e =
    tab_ext 128 (λ k. nat_eq (slice_index (tab 128 (mark_in set) ++ ys) k) 1) (λ k. get_or set k false) (λ k l. ap (λ (x : ℕ). nat_eq x 1) (rule_in 128 (mark_in set) ys k 0 l) ∙ bit_is (slice_index_or set k false))
    ∙ ap (λ (n : ℕ). tab n (λ k. get_or set k false)) (sym e) ∙ tab_self set false

rule_marks : (n : ℕ) (f : ℕ → Bool) (ys : List ℕ) → marks n (tab n (λ k. bit (f k)) ++ ys) ≡ true
unfolding marks tab
rule_marks zero f ys = refl
rule_marks (suc n) f ys = rw (le-leb (bit (f 0)) 1 (bit_most (f 0))) (rule_marks n (λ k. f (suc k)) ys)

pub marks_put : (set : List Bool) (ys : List ℕ) → marks 128 (marks_of true set ++ ys) ≡ true
unfolding marks_of
marks_put set ys = rule_marks 128 (λ k. get_or set k false) ys

-- so many bytes that are marks are put again
rule_write : (n : ℕ) (bs : List ℕ) → n ≤ length bs → marks n bs ≡ true → tab n (λ k. bit (slice_index bs k == 1)) ++ drop n bs ≡ bs
unfolding marks tab
rule_write zero bs l h = refl
rule_write (suc n) [] l h = absurd (not-suc-le-zero l)
rule_write (suc n) (b ∷ bs) l h =
    let t = and-true (nat_le b 1) (marks n bs) h in
    ap (λ (x : ℕ). x ∷ (tab n (λ k. bit (slice_index bs k == 1)) ++ drop n bs)) (mark_is b (leb-true b 1 t.0)) ∙ ap (λ (ys : List ℕ). b ∷ ys) (rule_write n bs (le_of_suc-le-suc l) t.1)

pub marks_write : (bs : List ℕ) → 128 ≤ length bs → marks 128 bs ≡ true → marks_of true (marks_in true bs) ++ drop 128 bs ≡ bs
unfolding marks_in marks_of
marks_write bs l h =
    ap (λ (ys : List ℕ). ys ++ drop 128 bs) (tab_ext 128 (mark_in (tab 128 (λ k. nat_eq (slice_index bs k) 1))) (λ k. bit (slice_index bs k == 1)) (λ k m. ap bit (get_d_tab 128 (λ j. nat_eq (slice_index bs j) 1) k false m)))
    ∙ rule_write 128 bs l h

-- a set without a code is all no
none_is : (set : List Bool) → none_marked set ≡ true → replicate (length set) false ≡ set
unfolding none_marked
none_is [] h = refl
none_is (true ∷ set) h = absurd (true≢false (sym h))
none_is (false ∷ set) h = ap (λ (s : List Bool). false ∷ s) (none_is set h)

-- ---- an event, and then its field

-- the set has its 128 places, as in every value of the type
abbrev pub Whole : Event → Type 0
Whole e = length e.set ≡ 128

-- an event with the parts of another is that one
event_same : {e : Event} {a b c d : ℕ} {set : List Bool} → a ≡ e.first → b ≡ e.second → c ≡ e.third → d ≡ e.fourth → set ≡ e.set → record { tag = e.tag; first = a; second = b; third = c; fourth = d; set = set } ≡ e
event_same one two three four marked = rw (one, two, three, four, marked) refl

bare : (bs : List ℕ) → marks_in false bs ≡ replicate 128 false
unfolding marks_in
bare bs = refl

and_both : {a b : Bool} → a ≡ true → b ≡ true → (a && b) ≡ true
and_both p q = rw (p, q) refl

-- the field's tag and length
pub tag_back : (e : Event) (ys : List ℕ) → tag_in (field e ++ ys) ≡ e.tag
unfolding field
tag_back e ys = refl

length_back : (e : Event) (ys : List ℕ) → length_in (field e ++ ys) ≡ data_length (layout_of e.tag)
unfolding field bytes_of number_in
length_back e ys = omega (arith, data_most (layout_of e.tag))

module _ (e : Event) (ys : List ℕ) where
  abbrev l : Layout
  l = layout_of e.tag

  -- what stands from each part on
  abbrev fifth : List ℕ
  fifth = marks_of l.set e.set ++ ys

  abbrev fourth : List ℕ
  fourth = bytes_of (width_of l.fourth) e.fourth ++ fifth

  abbrev third : List ℕ
  third = bytes_of (width_of l.third) e.third ++ fourth

  abbrev second : List ℕ
  second = bytes_of (width_of l.second) e.second ++ third

  abbrev first : List ℕ
  first = bytes_of (width_of l.first) e.first ++ second

  -- the data, part by part
  data_is : (numbers_of l e ++ marks_of l.set e.set) ++ ys ≡ first
  unfolding numbers_of
  data_is =
      let a = bytes_of (width_of l.first) e.first in
      let b = bytes_of (width_of l.second) e.second in
      let c = bytes_of (width_of l.third) e.third in
      let d = bytes_of (width_of l.fourth) e.fourth in
      append_assoc (a ++ (b ++ (c ++ d))) (marks_of l.set e.set) ys
      ∙ append_assoc a (b ++ (c ++ d)) fifth
      ∙ ap (λ (zs : List ℕ). a ++ zs) (append_assoc b (c ++ d) fifth ∙ ap (λ (zs : List ℕ). b ++ zs) (append_assoc c d fifth))

  past_first : past l.first first ≡ second
  past_first = part_past l.first e.first second

  past_second : past l.second (past l.first first) ≡ third
  past_second = ap (λ (zs : List ℕ). past l.second zs) past_first ∙ part_past l.second e.second third

  past_third : past l.third (past l.second (past l.first first)) ≡ fourth
  past_third = ap (λ (zs : List ℕ). past l.third zs) past_second ∙ part_past l.third e.third fourth

  past_fourth : past_numbers l first ≡ fifth
  past_fourth = ap (λ (zs : List ℕ). past l.fourth zs) past_third ∙ part_past l.fourth e.fourth fifth

  module _ (s : Sound e) (w : Whole e) where
    fits : (numbers_fit l e ≡ true) × ((l.set || none_marked e.set) ≡ true)
    unfolding event_fits
    fits = and-true (numbers_fit l e) (l.set || none_marked e.set) s.fitting

    -- each number may stand in its part
    each : (e.first ≤ most l.first) × (e.second ≤ most l.second) × (e.third ≤ most l.third) × (e.fourth ≤ most l.fourth)
    unfolding numbers_fit
    each =
        let one = leb e.first (most l.first) in
        let two = leb e.second (most l.second) in
        let three = leb e.third (most l.third) in
        let c = and-true (one && two && three) (nat_le e.fourth (most l.fourth)) fits.0 in
        let b = and-true (one && two) three c.0 in
        let a = and-true one two b.0 in
        (leb-true e.first (most l.first) a.0, leb-true e.second (most l.second) a.1, leb-true e.third (most l.third) b.1, leb-true e.fourth (most l.fourth) c.1)

    set_back : marks_in l.set fifth ≡ e.set
    set_back = go l.set refl fits.1
      where
        go : (t : Bool) → l.set ≡ t → (t || none_marked e.set) ≡ true → marks_in l.set fifth ≡ e.set
        go true t h = ap (λ (b : Bool). marks_in b (marks_of b e.set ++ ys)) t ∙ marks_read e.set ys w
        go false t h = ap (λ (b : Bool). marks_in b (marks_of b e.set ++ ys)) t ∙ bare (marks_of false e.set ++ ys) ∙ ap (λ (n : ℕ). replicate n false) (sym w) ∙ none_is e.set h

    -- the data of an event reads as the event
    of_data : event_of e.tag l first ≡ e
    of_data =
        event_same
        (part_read l.first e.first second each.0)
        (ap (λ (zs : List ℕ). number_in (width_of l.second) zs) past_first ∙ part_read l.second e.second third each.1)
        (ap (λ (zs : List ℕ). number_in (width_of l.third) zs) past_second ∙ part_read l.third e.third fourth each.2)
        (ap (λ (zs : List ℕ). number_in (width_of l.fourth) zs) past_third ∙ part_read l.fourth e.fourth fifth each.3)
        (ap (λ (zs : List ℕ). marks_in l.set zs) past_fourth ∙ set_back)

    -- and so does its field
    pub event_back : event_in (field e ++ ys) ≡ e
    unfolding event_in field bytes_of
    event_back = ap (λ (zs : List ℕ). event_of e.tag l zs) data_is ∙ of_data

    marks_good : marks_fit l.set fifth ≡ true
    marks_good = go l.set refl
      where
        go : (t : Bool) → l.set ≡ t → marks_fit l.set fifth ≡ true
        go true t = ap (λ (b : Bool). marks_fit b (marks_of b e.set ++ ys)) t ∙ marks_put e.set ys
        go false t = ap (λ (b : Bool). marks_fit b (marks_of b e.set ++ ys)) t

    reads_fit : read_fits (field e ++ ys) ≡ true
    unfolding read_fits field bytes_of
    reads_fit =
        and_both (ap (λ (x : Event). numbers_fit l x) event_back ∙ fits.0)
        (ap (λ (zs : List ℕ). marks_fit l.set (past_numbers l zs)) data_is ∙ ap (λ (zs : List ℕ). marks_fit l.set zs) past_fourth ∙ marks_good)

    -- nothing is at fault in it
    pub code_back : field_code (field e ++ ys) ≡ 0
    code_back =
        good_code (field e ++ ys)
        (record {
          tagged = ap known (tag_back e ys) ∙ s.tagged;
          headed = omega (arith, length-append (field e) ys, field_length_lem e);
          said = length_back e ys ∙ ap (λ (t : ℕ). data_length (layout_of t)) (sym (tag_back e ys));
          whole = omega (arith, length-append (field e) ys, field_length_lem e, ap field_length (tag_back e ys));
          fitting = reads_fit;
        })

-- ---- a good field, and then its event

unmarked : (set : List Bool) (zs : List ℕ) → marks_of false set ++ zs ≡ zs
unfolding marks_of
unmarked set zs = refl

-- what stands after the numbers, counted
past_all : (l : Layout) (ds : List ℕ) → past_numbers l ds ≡ drop (numbers_length l) ds
past_all l ds =
    let a = size (width_of l.first) in
    let b = size (width_of l.second) in
    let c = size (width_of l.third) in
    ap (λ (zs : List ℕ). past l.fourth (past l.third zs)) (drop-drop b a ds) ∙ ap (λ (zs : List ℕ). past l.fourth zs) (drop-drop c (a + b) ds) ∙ drop-drop (size (width_of l.fourth)) (a + b + c) ds

module _ (t : ℕ) (ds : List ℕ) (g : Bytes ds) where
  abbrev shape : Layout
  shape = layout_of t

  abbrev event : Event
  event = event_of t shape ds

  module _ (fits : data_length shape ≤ length ds) where
    -- the numbers read are put again
    numbers_again : numbers_of shape event ++ past_numbers shape ds ≡ ds
    unfolding numbers_of
    numbers_again =
        let one = width_of shape.first in
        let two = width_of shape.second in
        let three = width_of shape.third in
        let four = width_of shape.fourth in
        let e = past shape.first ds in
        let f = past shape.second e in
        let h = past shape.third f in
        let a = bytes_of one (number_in one ds) in
        let b = bytes_of two (number_in two e) in
        let c = bytes_of three (number_in three f) in
        let d = bytes_of four (number_in four h) in
        let n = numbers_within shape in
        let ge : Bytes e = bytes_drop (size one) ds g in
        let gf : Bytes f = bytes_drop (size two) e ge in
        let gh : Bytes h = bytes_drop (size three) f gf in
        let le = length-drop (size one) ds in
        let lf = length-drop (size two) e in
        let lh = length-drop (size three) f in
        append_assoc a (b ++ (c ++ d)) (past_numbers shape ds)
        ∙ ap (λ (zs : List ℕ). a ++ zs) (append_assoc b (c ++ d) (past_numbers shape ds) ∙ ap (λ (zs : List ℕ). b ++ zs) (append_assoc c d (past_numbers shape ds)
        ∙ ap (λ (zs : List ℕ). c ++ zs) (width_write four h gh (omega (arith, n, fits, le, lf, lh))) ∙ width_write three f gf (omega (arith, n, fits, le, lf)))
        ∙ width_write two e ge (omega (arith, n, fits, le)))
        ∙ width_write one ds g (omega (arith, n, fits))

    -- and so is the set
    set_again : marks_fit shape.set (past_numbers shape ds) ≡ true → marks_of shape.set event.set ++ drop (data_length shape) ds ≡ past_numbers shape ds
    set_again m = go shape.set refl
      where
        go : (b : Bool) → shape.set ≡ b → marks_of shape.set event.set ++ drop (data_length shape) ds ≡ past_numbers shape ds
        go true e =
            let far : drop (data_length shape) ds ≡ drop 128 (past_numbers shape ds) =
            ap (λ (k : ℕ). drop k ds) (data_marked shape e) ∙ sym (drop-drop 128 (numbers_length shape) ds) ∙ ap (λ (zs : List ℕ). drop 128 zs) (sym (past_all shape ds))
            in
            let long : 128 ≤ length (past_numbers shape ds) = omega (arith, fits, data_marked shape e, ap length (past_all shape ds), length-drop (numbers_length shape) ds) in
            let marked : marks 128 (past_numbers shape ds) ≡ true = sym (ap (λ (b : Bool). marks_fit b (past_numbers shape ds)) e) ∙ m in
            ap (λ (b : Bool). marks_of b (marks_in b (past_numbers shape ds)) ++ drop (data_length shape) ds) e
            ∙ ap (λ (zs : List ℕ). marks_of true (marks_in true (past_numbers shape ds)) ++ zs) far ∙ marks_write (past_numbers shape ds) long marked
        go false e =
            ap (λ (b : Bool). marks_of b (marks_in b (past_numbers shape ds)) ++ drop (data_length shape) ds) e
            ∙ unmarked (marks_in false (past_numbers shape ds)) (drop (data_length shape) ds) ∙ ap (λ (k : ℕ). drop k ds) (data_bare shape e) ∙ sym (past_all shape ds)

    data_again : marks_fit shape.set (past_numbers shape ds) ≡ true → (numbers_of shape event ++ marks_of shape.set event.set) ++ drop (data_length shape) ds ≡ ds
    data_again m =
        append_assoc (numbers_of shape event) (marks_of shape.set event.set) (drop (data_length shape) ds)
        ∙ ap (λ (zs : List ℕ). numbers_of shape event ++ zs) (set_again m) ∙ numbers_again

whole_back : (t a b : ℕ) (ds : List ℕ) → Bytes (t ∷ a ∷ b ∷ ds) → Good (t ∷ a ∷ b ∷ ds) → field (event_in (t ∷ a ∷ b ∷ ds)) ++ drop (field_length t) (t ∷ a ∷ b ∷ ds) ≡ t ∷ a ∷ b ∷ ds
unfolding field event_in bytes_of read_fits number_in
whole_back t a b ds h g =
    let n = data_length (layout_of t) in
    let e = event_of t (layout_of t) ds in
    let said : a * 256 + b ≡ n = g.said in
    let high : n / 256 % 256 ≡ a = ap (λ (k : ℕ). k / 256 % 256) (sym said) ∙ (two_bytes a b h.1.0 h.1.1.0).0 in
    let low : n % 256 ≡ b = ap (λ (k : ℕ). k % 256) (sym said) ∙ (two_bytes a b h.1.0 h.1.1.0).1 in
    let fits : n ≤ length ds = omega (arith, g.whole) in
    let marked = (and-true (numbers_fit (layout_of t) e) (marks_fit (layout_of t).set (past_numbers (layout_of t) ds)) g.fitting).1 in
    let put = numbers_of (layout_of t) e ++ marks_of (layout_of t).set e.set in
    let far : drop (field_length t) (t ∷ a ∷ b ∷ ds) ≡ drop n ds = sym (drop-drop n 3 (t ∷ a ∷ b ∷ ds)) in
    ap (λ (zs : List ℕ). t ∷ n / 256 % 256 ∷ n % 256 ∷ (put ++ zs)) far
    ∙ ap (λ (x : ℕ). t ∷ x ∷ n % 256 ∷ (put ++ drop n ds)) high
    ∙ ap (λ (x : ℕ). t ∷ a ∷ x ∷ (put ++ drop n ds)) low
    ∙ ap (λ (zs : List ℕ). t ∷ a ∷ b ∷ zs) (data_again t ds h.1.1.1 fits marked)

-- no set has no code
none_none : (zs : List ℕ) → none_marked (marks_in false zs) ≡ true
unfolding none_marked marks_in
none_none zs = refl

-- the field of the event that was read is the bytes it was read from
pub field_back : (bs : List ℕ) → Bytes bs → Good bs → field (event_in bs) ++ drop (field_length (tag_in bs)) bs ≡ bs
field_back [] h g = absurd (not-suc-le-zero g.headed)
field_back (t ∷ []) h g = absurd (not-suc-le-zero (le_of_suc-le-suc g.headed))
field_back (t ∷ a ∷ []) h g = absurd (not-suc-le-zero (le_of_suc-le-suc (le_of_suc-le-suc g.headed)))
field_back (t ∷ a ∷ b ∷ ds) h g = whole_back t a b ds h g

pub tag_is : (bs : List ℕ) → (event_in bs).tag ≡ tag_in bs
unfolding event_in
tag_is bs = refl

fits_is : (bs : List ℕ) → Good bs → event_fits (event_in bs) ≡ true
unfolding event_fits event_in read_fits
fits_is bs g =
    let l = layout_of (tag_in bs) in
    and_both (and-true (numbers_fit l (event_in bs)) (marks_fit l.set (past_numbers l (drop 3 bs))) g.fitting).0 (go l.set (past_numbers l (drop 3 bs)))
  where
    go : (t : Bool) (zs : List ℕ) → (t || none_marked (marks_in t zs)) ≡ true
    go true zs = refl
    go false zs = none_none zs

-- nothing is at fault in it
pub event_sound : (bs : List ℕ) → Good bs → event_code (event_in bs) ≡ 0
event_sound bs g = sound_code (event_in bs) (record { tagged = ap known (tag_is bs) ∙ g.tagged; fitting = fits_is bs g })

-- and its set has its places
pub event_whole : (bs : List ℕ) → Whole (event_in bs)
unfolding event_in marks_in
event_whole bs = go (layout_of (tag_in bs)).set
  where
    go : (t : Bool) → length (marks_in t (past_numbers (layout_of (tag_in bs)) (drop 3 bs))) ≡ 128
    go true = tab_length 128 (λ k. nat_eq (slice_index (past_numbers (layout_of (tag_in bs)) (drop 3 bs)) k) 1)
    go false = refl
