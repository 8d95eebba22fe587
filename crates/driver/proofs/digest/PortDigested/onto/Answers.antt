-- A port is taken as its contract says: its calls, one after the other.
use Rattle.driver.specs.Digest.{port_taken}
use Rattle.driver.proofs.digest.PortDigested.onto.Goals as goal

pub returns : goal.returns
unfolding port_taken
returns c = cc
