-- Bytes read from a place on, and the set of a setup, one place after the other.
--   first_byte, four_halves   the byte at a place, and a number of four bytes as two of two
--   none_on, marks_on     the set, one place more
-- Not here: that each undoes the other, in laws/Undo.
-- Assumes nothing.
use Rattle.std.specs.Prelude.{◌≡◌, ℕ, ◌+◌, ◌*◌, ◌<◌, Bool, false, not, ◌&&◌, List, length, drop, nat_le, slice_index, slice_index_or, refl}
use Rattle.std.proofs.Common.{sym, ◌∙◌, ap, add-zero, add-one, drop-cons, drop-drop, get_or-drop}
use Rattle.recording.specs.Layout.{Two, Four}
use Rattle.recording.specs.Event.{none_marked}
use Rattle.recording.specs.Field.{number_in, marks}

pub first_byte : (i : ℕ) (bs : List ℕ) → slice_index (drop i bs) 0 ≡ slice_index bs i
first_byte i bs = get_or-drop i bs 0 0 ∙ ap (λ (m : ℕ). slice_index bs m) (add-zero i)

pub four_halves : (bs : List ℕ) → number_in Four bs ≡ number_in Two bs * 65536 + number_in Two (drop 2 bs)
unfolding number_in
four_halves bs = sym (rw (get_or-drop 2 bs 0 0, get_or-drop 2 bs 1 0) refl)

pub none_on : (set : List Bool) (k : ℕ) → k < length set → none_marked (drop k set) ≡ (not (slice_index_or set k false) && none_marked (drop (k + 1) set))
unfolding none_marked
none_on set k h = ap none_marked (drop-cons set k false h) ∙ ap (λ (n : ℕ). not (slice_index_or set k false) && none_marked (drop n set)) (sym (add-one k))

pub marks_on : (n i : ℕ) (bs : List ℕ) → marks (n + 1) (drop i bs) ≡ (nat_le (slice_index bs i) 1 && marks n (drop (i + 1) bs))
unfolding marks
marks_on n i bs =
    ap (λ (m : ℕ). marks m (drop i bs)) (add-one n) ∙
    ap (λ (b : ℕ). nat_le b 1 && marks n (drop 1 (drop i bs))) (first_byte i bs) ∙
    ap (λ (ys : List ℕ). nat_le (slice_index bs i) 1 && marks n ys) (drop-drop 1 i bs)
