-- The stores of a plan as the code has it are those of the plan.
-- Assumes nothing.
use Rattle.std.specs.Prelude.{◌≡◌, refl, Bool, true, false, List, ℕ, ◌+◌, is_some, unwrap_or}
use Rattle.std.specs.Bool.{then_some}
use Rattle.ground.specs.Choose.{pick}
use Rattle.words.specs.Codes.{at_icw, at_ibp}
use Rattle.words.specs.Byte.{word_if, byte_if}
use Rattle.input.specs.Plan.{Plan, planned, plan_of}
use Rattle.input.specs.Input.{carried}

-- the byte is looked at only where it is stored
pub carried_planned : (p : Plan) (a next : ℕ) (m : List ℕ) → carried (plan_of (planned p)) a next m ≡ carried p a next m
unfolding carried word_if byte_if pick
carried_planned p a next m = by p.store
  where
    by : (s : Bool) → word_if p.write (byte_if (is_some (then_some s p.byte)) (word_if (is_some (then_some s p.byte)) m (a + at_ibp) next) next (unwrap_or (then_some s p.byte) 0)) (a + at_icw) p.icw ≡ word_if p.write (byte_if s (word_if s m (a + at_ibp) next) next p.byte) (a + at_icw) p.icw
    by true = refl
    by false = refl
