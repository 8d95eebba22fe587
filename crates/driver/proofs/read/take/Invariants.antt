-- `driver::read::take` meets its contract. The loop's invariant: so many bytes of the text are taken.
use Rattle.driver.specs.laws.Folds.{Folding}
use Rattle.driver.proofs.read.take.Given as goal

abbrev pub invariant-loop-b : goal.invariant-loop-b
invariant-loop-b g l = Folding g.T.Takes.takes l.text l.initial.t l.t l.b-index
