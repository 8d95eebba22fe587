-- `driver::read::read_all` meets its contract. The loop's invariant: what is there is what the text that was read leaves.
use Rattle.driver.specs.laws.Heard.{from_none, from_on}
use Rattle.driver.proofs.read.read_all.Goals as goal

pub loop-init : goal.loop-init
loop-init g c = from_none g.T.Takes.takes _ _

pub loop-preserved : goal.loop-preserved
loop-preserved g c = from_on g.T.Takes.takes _ _ _ _ _ _ _ c.loop.invariant c.received-n.ensures.bytes c.take.ensures
