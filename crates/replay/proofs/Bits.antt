-- A yes or no as a number, as the library and the definitions have it.
use Rattle.std.specs.Prelude.{◌≡◌, Bool, true, false, refl}
use Rattle.std.specs.Int.{from_bool}
use Rattle.ground.specs.Choose.{bit}

pub same_bit : (b : Bool) → from_bool b ≡ bit b
unfolding bit
same_bit true = refl
same_bit false = refl
