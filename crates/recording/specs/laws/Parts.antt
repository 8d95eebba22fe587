-- Where the parts of a field stand, counted from its tag.
--   event_parts   the parts read one by one are the event
--   past_one, past_two, past_three, past-numbers   what is left after so many numbers
-- Not here: what is read there, in Field.
-- Assumes nothing.
use Rattle.std.specs.Prelude.{◌≡◌, ℕ, ◌+◌, Bool, List, drop, refl}
use Rattle.std.proofs.Common.{sym, ◌∙◌, ap, arith, drop-drop}
use Rattle.recording.specs.Layout.{Part, Layout, width_of, size}
use Rattle.recording.specs.Field.{number_in, marks_in, past, past_numbers, set_at, event_of}

module _ (l : Layout) (bs : List ℕ) where
  abbrev pub second : ℕ
  second = 3 + size (width_of l.first)

  abbrev pub third : ℕ
  third = second + size (width_of l.second)

  abbrev pub fourth : ℕ
  fourth = third + size (width_of l.third)

  -- one part further
  on : (p : Part) (n : ℕ) (ys : List ℕ) → ys ≡ drop n bs → past p ys ≡ drop (n + size (width_of p)) bs
  on p n ys e = ap (λ (zs : List ℕ). past p zs) e ∙ drop-drop (size (width_of p)) n bs

  pub past_one : past l.first (drop 3 bs) ≡ drop second bs
  past_one = drop-drop (size (width_of l.first)) 3 bs

  pub past_two : past l.second (past l.first (drop 3 bs)) ≡ drop third bs
  past_two = on l.second second (past l.first (drop 3 bs)) past_one

  pub past_three : past l.third (past l.second (past l.first (drop 3 bs))) ≡ drop fourth bs
  past_three = on l.third third (past l.second (past l.first (drop 3 bs))) past_two

  pub past-numbers : past_numbers l (drop 3 bs) ≡ drop (set_at l) bs
  past-numbers =
      let far : fourth + size (width_of l.fourth) ≡ set_at l = omega arith in
      on l.fourth fourth (past l.third (past l.second (past l.first (drop 3 bs)))) past_three ∙ ap (λ (n : ℕ). drop n bs) far

  -- the parts read one by one, each from its place, are the event
  pub event_parts : (t : ℕ) {a b c d : ℕ} {set : List Bool}
      → a ≡ number_in (width_of l.first) (drop 3 bs) → b ≡ number_in (width_of l.second) (drop second bs) → c ≡ number_in (width_of l.third) (drop third bs) → d ≡ number_in (width_of l.fourth) (drop fourth bs)
      → set ≡ marks_in l.set (past_numbers l (drop 3 bs)) → record { tag = t; first = a; second = b; third = c; fourth = d; set = set } ≡ event_of t l (drop 3 bs)
  event_parts t one two three four marked =
      rw (
        one,
        two ∙ ap (λ (ys : List ℕ). number_in (width_of l.second) ys) (sym past_one),
        three ∙ ap (λ (ys : List ℕ). number_in (width_of l.third) ys) (sym past_two),
        four ∙ ap (λ (ys : List ℕ). number_in (width_of l.fourth) ys) (sym past_three),
        marked,
      )
      refl
