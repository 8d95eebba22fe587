-- What the code keeps of what is typed.
--   takes_taken   it takes a byte as the definition does
--   takes_all     and some text
--   heard_typed   what it is, from nothing on, after what a reader gave
-- Not here: what is typed, in specs/Typing.
-- Assumes nothing.
use Rattle.std.specs.Prelude.{◌≡◌, refl, Bool, true, false, ℕ, Option, None, Some, eqb, unwrap_or}
use Rattle.ground.specs.Choose.{pick}
use Rattle.driver.specs.declared.read.Line.{Line}
use mathlib.Core.List.{List, [], ◌∷◌, foldl}
use Rattle.std.proofs.Common.{ap, ◌∙◌}
use Rattle.driver.specs.Text.{blank, typed, HeardFrom}
use Rattle.picture.specs.declared.Typing.{Typing as TypingMade}
use Rattle.picture.specs.Typing.{Typing, nothing, taken, typing_in, typing_of, takes}

pub takes_taken : (t : TypingMade) (b : ℕ) → typing_of (takes t b) ≡ taken (typing_of t) b
unfolding takes taken pick
takes_taken t b = go t.line (eqb b 10)
  where
    go : (o : Option Line) (n : Bool) → typing_in (pick n None (Some (typed (unwrap_or o blank) b))) ≡ pick n nothing (record { begun = true; line = typed (typing_in o).line b })
    go None true = refl
    go None false = refl
    go (Some l) true = refl
    go (Some l) false = refl

pub takes_all : (t : TypingMade) (text : List ℕ) → typing_of (foldl takes t text) ≡ foldl taken (typing_of t) text
takes_all t [] = refl
takes_all t (b ∷ text) = takes_all (takes t b) text ∙ ap (λ (s : Typing). foldl taken s text) (takes_taken t b)

pub heard_typed : (had left : Option (List ℕ)) (t : TypingMade) → HeardFrom had left takes (record { line = None }) t → HeardFrom had left taken nothing (typing_of t)
heard_typed had left t h = record { text = h.text; bytes = h.bytes; line = ap typing_of h.line ∙ takes_all (record { line = None }) h.text }
