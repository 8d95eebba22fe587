-- `replay::play::put` meets its contract: past the end nothing is written.
use Rattle.std.proofs.Common.{sym, arith, ◌%◌}
use lib.Seq.{set_out}
use Rattle.replay.proofs.play.put.Goals as goal

pub returns-else-at-mem : goal.returns-else-at-mem
returns-else-at-mem c = let a = c.args in sym (set_out a.mem.now a.address (a.word % 65536) (omega (arith, c.if-at-mem.false)))
