-- `driver::digest::of_window` meets its contract: its calls, one after the other.
use Rattle.driver.specs.Digest.{window_digest}
use Rattle.driver.proofs.digest.of_window.Goals as goal

pub returns : goal.returns
unfolding window_digest
returns c = record { is = cc; below = c.and-10.result.below }
