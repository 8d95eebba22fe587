-- `day::Day::read_all` meets its contract. The loop's invariant: what is there is what the text that was read leaves.
use Rattle.driver.specs.Text.{HeardFrom}
use Rattle.day.specs.Day.{taken}
use Rattle.day.proofs.Day.read_all.Given as goal

abbrev pub invariant-loop : goal.invariant-loop
invariant-loop g l = HeardFrom (g.R.Read.remaining l.initial.reader) (g.R.Read.remaining l.reader) taken l.initial.self l.self
