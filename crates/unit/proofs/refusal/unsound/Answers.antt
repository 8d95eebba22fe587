-- `unit::refusal::unsound` meets its contract: the three parts of row 6, by what was found of the setting.
use Rattle.std.proofs.Common.{arith}
use Rattle.std.proofs.lemmas.Grind.{common_steps}
use Rattle.unit.proofs.Found.{unsound_by}
use Rattle.unit.proofs.refusal.unsound.Goals.{then-is_err, else-is_err}
use Rattle.unit.proofs.refusal.unsound.Goals as goal

pub returns-then-u : goal.returns-then-u
returns-then-u c =
    let h = unsound_by c.args.u c.setup_refusal.result c.setup_refusal.ensures in
    elim c.if-is_err.branch [ then-is_err w ↦ grind (arith, common_steps) | else-is_err w ↦ grind (arith, common_steps) ]

pub returns-else-u : goal.returns-else-u
returns-else-u c =
    let h = unsound_by c.args.u c.setup_refusal.result c.setup_refusal.ensures in
    elim c.if-is_err.branch [ then-is_err w ↦ grind (arith, common_steps) | else-is_err w ↦ grind (arith, common_steps) ]
