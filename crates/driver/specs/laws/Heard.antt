-- What some text leaves, from one read to the next.
--   heard_none, heard_on             before the first byte, and some bytes on
--   consumes_none, consumes_on       a reader of which nothing is read yet, and some bytes on
--   from_none, from_on, from_heard   the same of the text that a reader gave, which is some text
-- Not here: what a read is, in Text.
-- Assumes nothing.
use Rattle.std.specs.Prelude.{◌≡◌, refl, ℕ, Option, None, Some}
use Rattle.std.specs.Io.KnownBytes.{Consumes}
use Rattle.std.proofs.Common.{sym, ap, ◌∙◌, append_assoc}
use mathlib.Core.List.{List, [], ◌++◌, foldl, foldl-append}
use Rattle.driver.specs.Text.{Turned, came, silent, Heard, HeardFrom}

module _ {A : Type 0} (taken : A → ℕ → A) (first : A) where
  -- nothing was read yet
  pub heard_none : Heard taken first first
  heard_none = record { text = []; line = refl }

  -- one more read, by a reader that keeps what is left
  pub heard_on : {R : Type 0} (left : R → A) (on : R → List ℕ → R) (shut : R → R) → ((r : R) (text : List ℕ) → left (on r text) ≡ foldl taken (left r) text) → ((r : R) → left (shut r) ≡ left r) → (r q : R) → Heard taken first (left r) → Turned on shut r q → Heard taken first (left q)
  heard_on left on shut e s r q h (came text c) =
      record {
        text = h.text ++ text;
        line = ap left c ∙ e r text ∙ ap (λ (l : A). foldl taken l text) h.line ∙ sym (foldl-append taken first h.text text);
      }
  heard_on left on shut e s r q h (silent c) = record { text = h.text; line = ap left c ∙ s r ∙ h.line }

-- nothing is read of a reader yet
pub consumes_none : (a : Option (List ℕ)) → Consumes a a []
consumes_none None = tt
consumes_none (Some xs) = refl

-- some bytes, and some more
pub consumes_on : (a b c : Option (List ℕ)) (xs ys : List ℕ) → Consumes a b xs → Consumes b c ys → Consumes a c (xs ++ ys)
consumes_on None b c xs ys p q = tt
consumes_on (Some l) None c xs ys p q = absurd p
consumes_on (Some l) (Some m) None xs ys p q = absurd q
consumes_on (Some l) (Some m) (Some n) xs ys p q = p ∙ ap (λ (k : List ℕ). xs ++ k) q ∙ sym (append_assoc xs ys n)

module _ {A : Type 0} (taken : A → ℕ → A) (first : A) where
  -- nothing was read yet
  pub from_none : (had : Option (List ℕ)) → HeardFrom had had taken first first
  from_none had = record { text = []; bytes = consumes_none had; line = refl }

  -- one more read
  pub from_on : (had now left : Option (List ℕ)) (l q : A) (text : List ℕ) → HeardFrom had now taken first l → Consumes now left text → q ≡ foldl taken l text → HeardFrom had left taken first q
  from_on had now left l q text h c e =
      record {
        text = h.text ++ text;
        bytes = consumes_on had now left h.text text h.bytes c;
        line = e ∙ ap (λ (x : A). foldl taken x text) h.line ∙ sym (foldl-append taken first h.text text);
      }

  -- what a reader gave is some text
  pub from_heard : (had left : Option (List ℕ)) (l : A) → HeardFrom had left taken first l → Heard taken first l
  from_heard had left l h = record { text = h.text; line = h.line }
