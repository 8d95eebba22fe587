-- `unit::refusal::setup_refusal` meets its contract: what passed of the base.
use Rattle.unit.proofs.Found.{base_passes}
use Rattle.unit.proofs.refusal.setup_refusal.Goals as goal

pub area_refusal-requires-clause-base_fits : goal.area_refusal-requires-clause-base_fits
area_refusal-requires-clause-base_fits c = base_passes c.args.s c.in_ok-base_refusal.ensures
