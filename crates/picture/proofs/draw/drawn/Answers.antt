-- `picture::draw::drawn` meets its contract: each cell is what the row has for it.
use Rattle.std.proofs.Common.{rules}
use Rattle.picture.specs.Draw.{drawn_at, drawn}
use Rattle.ground.specs.laws.Filled.{from_rule}
use Rattle.picture.proofs.draw.drawn.Goals as goal

pub returns : goal.returns
unfolding drawn
returns c =
    let a = c.args in
    from_rule _ (drawn_at a.f a.c a.which) _ (λ i y q k. search rules) c.from_fn.result 24 0 c.from_fn.ensures.items
