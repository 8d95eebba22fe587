-- `day::Day::take` meets its contract. The loop's invariant: so many bytes of the text are taken.
use Rattle.driver.specs.laws.Folds.{Folding}
use Rattle.day.specs.Day.{taken}
use Rattle.day.proofs.Day.take.Given as goal

abbrev pub invariant-loop-b : goal.invariant-loop-b
invariant-loop-b g l = Folding taken l.text l.initial.self l.self l.b-index
