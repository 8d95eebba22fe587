-- `recording::field::put_marks` meets its contract: each turn puts one code more.
use Rattle.std.proofs.Common.{◌≡◌, ℕ, ◌+◌, Bool, true, false, [], refl, sym, ◌∙◌, subst, add-zero, arith, rules}
use Rattle.std.specs.Int.{from_bool}
use Rattle.ground.specs.Choose.{bit}
use Rattle.ground.specs.Tab.{tab}
use Rattle.recording.specs.Field.{Put, mark_in, marks_of}
use Rattle.recording.specs.laws.Put.{put_none, put_rule}
use Rattle.recording.proofs.field.put_marks.Goals as goal

same_bit : (b : Bool) → from_bool b ≡ bit b
unfolding bit
same_bit true = refl
same_bit false = refl

pub loop-k-init : goal.loop-k-init
unfolding tab
loop-k-init c = let a = c.args in subst (λ (n : ℕ). Put [] a.at a.out.now n a.out.now) (sym (add-zero a.at)) (put_none a.at a.out.now)

pub overflow_add-out : goal.overflow_add-out
overflow_add-out c = omega (arith, c.requires)

pub bounds-out-at : goal.bounds-out-at
bounds-out-at c = omega (arith, c.requires, c.loop-k.invariant.same)

pub loop-k-preserved : goal.loop-k-preserved
loop-k-preserved c =
    let l = c.loop-k in
    let a = c.args in
    let is : c.from.result ≡ mark_in a.set l.k = c.from.ensures ∙ same_bit _ in
    rw is (put_rule (mark_in a.set) a.at a.out.now l.out l.k (omega (arith, c.requires, c.loop-k-test.true)) l.invariant)

pub returns : goal.returns
unfolding marks_of
returns c =
    let l = c.loop-k in
    let a = c.args in
    let e : l.k ≡ 128 = search rules in
    subst (λ (n : ℕ). Put (tab n (mark_in a.set)) a.at a.out.now (a.at + n) l.out) e l.invariant
