-- A text that is taken in parts.
--   carried_out                                   a newline carries the order out
--   Reached, reached_none, reached_on, reached_driven   a run up to here
-- Not here: folds from a place in a list on, in laws/Folds of the crate driver.
-- Assumes nothing.
use Rattle.std.specs.Prelude.{◌≡◌, true, ℕ}
use Rattle.std.proofs.Common.{sym, ◌∙◌, ap, true≢false, eq-eqb}
use mathlib.Core.List.{List, [], ◌++◌, foldl-append}
use Rattle.ground.specs.Choose.{pick}
use Rattle.driver.specs.Text.{blank, typed, Turned, came, silent}
use Rattle.compared.specs.Desk.{Desk, Kept, kept, new_desk, with_line}
use Rattle.compared.specs.Session.{order, lined, take_byte, played, shut, Driven}

-- a newline: the order of the line with it typed, and a blank line after
pub carried_out : (k : Kept) (b : ℕ) (e r : Desk) (m xs : List ℕ) → b ≡ 10 → e ≡ with_line k.desk (typed k.desk.line b) → kept r m xs ≡ order (kept e k.memory k.list) → kept (with_line r blank) m xs ≡ take_byte k b
unfolding take_byte pick
carried_out k b e r m xs h p q =
    rw (eq-eqb b 10 h) (ap (λ (j : Kept). lined j blank) (q ∙ ap (λ (d : Desk). order (kept d k.memory k.list)) p))

-- a run from k up to j: some text was taken, and it goes on or has ended
pub data Reached (k j : Kept) : Type 0 where
  on : (text : List ℕ) → j ≡ played k text → Reached k j
  over : (text : List ℕ) → j ≡ shut (played k text) → Reached k j

pub reached_none : (m xs : List ℕ) (d : Desk) → d ≡ new_desk → Reached (kept new_desk m xs) (kept d m xs)
reached_none m xs d e = on [] (ap (λ (f : Desk). kept f m xs) e)

-- one read more, of a desk that goes on
pub reached_on : {k j i : Kept} → j.desk.going ≡ true → Reached k j → Turned played shut j i → Reached k i
reached_on {k} g (on text e) (came more f) =
    on (text ++ more) (f ∙ ap (λ (x : Kept). played x more) e ∙ sym (foldl-append take_byte k text more))
reached_on {k} g (on text e) (silent f) = over text (f ∙ ap (λ (x : Kept). shut x) e)
reached_on {k} g (over text e) t = absurd (true≢false (sym g ∙ ap (λ (x : Kept). x.desk.going) e))

-- what a run leaves
pub reached_driven : {m xs : List ℕ} {j : Kept} → Reached (kept new_desk m xs) j → Driven m xs j.memory j.list
reached_driven (on text e) =
    record { text = text; memory = ap (λ (x : Kept). x.memory) e; list = ap (λ (x : Kept). x.list) e }
reached_driven (over text e) =
    record { text = text; memory = ap (λ (x : Kept). x.memory) e; list = ap (λ (x : Kept). x.list) e }
