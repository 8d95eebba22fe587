-- `words::special::set_1974` meets its contract: each place has what the closure answered there.
use Rattle.std.proofs.Common.{false, rules}
use Rattle.ground.specs.laws.Filled.{from_rule}
use Rattle.words.specs.Special.{is_special, set1974}
use Rattle.words.proofs.special.set_1974.Goals as goal

pub returns : goal.returns
unfolding set1974
returns c = from_rule _ is_special _ (λ i y q k. search rules) c.from_fn.result 128 false c.from_fn.ensures.items
