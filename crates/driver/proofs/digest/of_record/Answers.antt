-- `driver::digest::of_record` meets its contract: its calls, one after the other.
use Rattle.driver.specs.Digest.{record_digest}
use Rattle.driver.proofs.digest.of_record.Goals as goal

pub returns : goal.returns
unfolding record_digest
returns c = record { is = cc; below = c.all-3.result.below }
