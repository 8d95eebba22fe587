-- `driver::digest::taken` meets its contract: nothing wraps, and a remainder is below the modulus.
use mathlib.Core.Path.{refl}
use native.Mathlib.Nat.{mod-lt}
use native.Mathlib.Omega.{arith}
use Rattle.driver.specs.Digest.{taken}
use Rattle.driver.proofs.digest.taken.Goals as goal

pub returns : goal.returns
unfolding taken
returns c = record { is = refl; below = mod-lt _ (omega arith) }
