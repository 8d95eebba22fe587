-- `driver::digest::Digest::all` meets its contract. The loop's invariant: so many of the things are taken.
use Rattle.std.proofs.Common.{ap, ◌∙◌}
use Rattle.driver.specs.laws.Folds.{folding_none, folding_on, folding_all}
use Rattle.driver.proofs.digest.Digest.all.Goals as goal

pub loop-x-init : goal.loop-x-init
loop-x-init g c = folding_none _ _ _

pub loop-x-preserved : goal.loop-x-preserved
loop-x-preserved g c =
    let l = c.loop-x in
    let f = g.T.Digested.takes in
    folding_on f _ _ c.x-item.result l.d.value _ l.x-index c.loop-x-test.true (c.and-d.ensures ∙ ap (f l.d.value) c.x-item.is) l.invariant

pub returns : goal.returns
returns g c = folding_all _ _ _ _ _ c.loop-x-test.false c.loop-x.invariant
