-- `driver::say::spell` meets its contract: the digits that `io::decimal` gives are the number's.
use native.Mathlib.Omega.{arith}
use lib.ListN.{length-take}
use Rattle.driver.specs.laws.Numerals.{numeral_is, fewest_twenty}
use Rattle.driver.proofs.say.spell.Goals as goal

pub put-requires : goal.put-requires
put-requires c = let d = c.decimal-k in simp length-take (omega (arith, fewest_twenty d.result _ c.ranges.x.fits d.ensures.len))

pub returns : goal.returns
returns c = let d = c.decimal-k in rw (← numeral_is 20 d.result _ (fewest_twenty d.result _ c.ranges.x.fits d.ensures.len) d.ensures.len, ← d.ensures.digits) c.put.ensures
