-- A line that asks for a frame, in numbers.
--   drawable_parts   its numbers are a form's and a character's
-- Not here: what a line asks for, in specs/Asked.
-- Assumes nothing.
use Rattle.std.specs.Prelude.{◌≡◌, Bool, true, false, List, ℕ, ◌<◌}
use Rattle.std.proofs.Common.{ltb-true}
use Rattle.ground.specs.Choose.{pick}
use Rattle.ground.specs.laws.Rows.{and-true}
use Rattle.picture.specs.Asked.{nth, drawable, Drawable}

-- a choice that is true without its first branch
chosen : (s t : Bool) → pick s false t ≡ true → t ≡ true
unfolding pick
chosen false t e = e
chosen true t e = cc

pub drawable_parts : (n : List ℕ) (count : ℕ) → drawable n count ≡ true → Drawable (nth n 0) (nth n 1) (nth n 2) × (nth n 3 < 256)
unfolding drawable
drawable_parts n count e =
    let a = and-true _ _ (chosen _ _ e) in
    let b = and-true _ _ a.0 in
    let c = and-true _ _ b.0 in
    let bits = and-true _ _ c.0 in
    let stops = and-true _ _ b.1 in (
      record {
        some_bits = ltb-true _ _ bits.0;
        few_bits = ltb-true _ _ bits.1;
        known = ltb-true _ _ c.1;
        some_stops = ltb-true _ _ stops.0;
        few_stops = ltb-true _ _ stops.1;
      },
      ltb-true _ _ a.1,
    )
