-- `driver::say::spell_all` meets its contract. The loop's invariant: so many numbers of the line are put.
use Rattle.std.proofs.Common.{◌≡◌, ℕ, length, take, refl, ap, ◌∙◌, arith, rules, length-take}
use Rattle.std.proofs.lemmas.List.{take_min}
use Rattle.driver.proofs.laws.Lines.{begun_none, begun_on, begun_all}
use Rattle.driver.proofs.say.spell_all.Goals as goal

pub loop-i-init : goal.loop-i-init
loop-i-init c = (simp length-take (omega arith), begun_none (take c.min-most.result c.args.n) c.args.text.now)

pub spell-at-requires : goal.spell-at-requires
spell-at-requires c = let b = c.loop-i.invariant.1 in omega (arith, b.near, b.long)

pub loop-i-preserved : goal.loop-i-preserved
loop-i-preserved c =
    let l = c.loop-i in
    let xs = take c.min-most.result c.args.n in
    (l.invariant.0, begun_on xs c.args.text.now l.i l.at _ l.text _ _ _ _ l.invariant.0 (omega arith) refl c.mark.ensures c.spell-at.ensures l.invariant.1)

pub returns : goal.returns
returns c =
    let l = c.loop-i in
    let a = c.args in
    let ten : length a.n ≡ 10 = search rules in
    let e : take c.min-most.result a.n ≡ take a.count a.n = ap (λ (k : ℕ). take k a.n) (rw ten c.min-most.ensures) ∙ take_min a.count a.n in
    rw (← e) (begun_all _ a.text.now l.i l.at l.text (omega arith) l.invariant.1)
