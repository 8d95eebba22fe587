-- `unit::refusal::sweep_refusal` meets its contract: the last row, where none before it applied.
use Rattle.std.proofs.Common.{arith}
use Rattle.ground.specs.Choose.{pick}
use Rattle.unit.proofs.Found.{sweep_asks}
use Rattle.unit.proofs.refusal.sweep_refusal.Goals as goal

pub returns : goal.returns
unfolding pick
returns c =
    let h = sweep_asks c.args.u c.args.mem.now c.args.n c.args.list.now c.in_ok-inspect_refusal.ensures in
    grind arith
