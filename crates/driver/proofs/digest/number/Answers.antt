-- `driver::digest::number` meets its contract: std's number of a bool is its bit.
use Rattle.std.proofs.Common.{◌≡◌, Bool, true, false, ℕ, arith}
use Rattle.std.specs.Int.{from_bool}
use Rattle.ground.specs.Choose.{bit, Below}
use Rattle.driver.proofs.digest.number.Goals as goal

bit_of : (b : Bool) (r : ℕ) → r ≡ from_bool b → Below 2 (bit b) r
unfolding bit
bit_of true r e = record { is = e; below = omega arith }
bit_of false r e = record { is = e; below = omega arith }

pub returns : goal.returns
returns c = bit_of _ _ c.from.ensures
