-- `day::Day::take` meets its contract. The loop's invariant: so many bytes of the text are taken.
use Rattle.driver.specs.laws.Folds.{folding_none, folding_on, folding_all}
use Rattle.day.specs.Day.{taken}
use Rattle.day.proofs.Day.take.Goals as goal

pub loop-b-init : goal.loop-b-init
loop-b-init g c = folding_none _ _ _

pub loop-b-preserved : goal.loop-b-preserved
loop-b-preserved g c = folding_on taken _ _ 0 c.loop-b.self _ c.loop-b.b-index c.loop-b-test.true c.take_byte.ensures c.loop-b.invariant

pub returns : goal.returns
returns g c = folding_all _ _ _ _ _ c.loop-b-test.false c.loop-b.invariant
