-- `driver::digest::Digest::all` meets its contract. The loop's invariant: so many of the things are taken.
use Rattle.driver.specs.laws.Folds.{Folding}
use Rattle.driver.proofs.digest.Digest.all.Given as goal

abbrev pub invariant-loop-x : goal.invariant-loop-x
invariant-loop-x g l = Folding g.T.Digested.takes l.xs l.initial.d.value l.d.value l.x-index
