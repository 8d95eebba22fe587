-- `driver::say::spell_all` meets its contract. The loop's invariant: so many numbers of the line are put.
use Rattle.std.proofs.Common.{◌≡◌, length}
use Rattle.driver.specs.laws.Lines.{Begun}
use Rattle.driver.proofs.say.spell_all.Given as goal

abbrev pub invariant-loop-i : goal.invariant-loop-i
invariant-loop-i l = (l.most ≡ length l.x-items) × Begun l.x-items l.initial.text l.i l.at l.text
