-- `day::Day::read_all` meets its contract. The loop's invariant: what is there is what the text that was read leaves.
use Rattle.std.proofs.Common.{refl}
use Rattle.driver.specs.laws.Heard.{from_none, from_on}
use Rattle.day.specs.Day.{taken}
use Rattle.day.proofs.Failed.{kept_none}
use Rattle.day.proofs.Day.read_all.Goals as goal

pub loop-init : goal.loop-init
loop-init g c = from_none taken _ _

pub loop-preserved : goal.loop-preserved
loop-preserved g c = from_on taken _ _ _ _ _ _ _ c.loop.invariant c.in_ok-n.ensures.bytes.0 c.take.ensures

pub returns-in_err-n : goal.returns-in_err-n
returns-in_err-n g c = from_on taken _ _ _ _ _ _ _ c.loop.invariant (kept_none _ _ c.in_err-n.ensures.bytes) refl
