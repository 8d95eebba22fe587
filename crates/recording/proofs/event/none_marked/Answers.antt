-- `recording::event::none_marked` meets its contract: each turn asks one code more.
use Rattle.std.proofs.Common.{◌≡◌, ℕ, ◌+◌, ◌<◌, Bool, false, not, ◌&&◌, List, length, get_or, drop, sym, refl, ap, ◌∙◌, arith, rules}
use Rattle.std.proofs.Math.Bool.{and_assoc, and-true}
use Rattle.std.proofs.Math.Seq.{drop-length}
use Rattle.recording.specs.Event.{none_marked}
use Rattle.recording.specs.laws.Marks.{none_on}
use Rattle.recording.proofs.event.none_marked.Goals as goal

pub loop-yes-init : goal.loop-yes-init
loop-yes-init c = refl

pub loop-yes-preserved : goal.loop-yes-preserved
loop-yes-preserved c =
    let l = c.loop-yes in
    let s = c.args.set in
    let h : l.yes-index < length s = omega (arith, c.loop-yes-test.true) in
    and_assoc l.none (not (get_or s l.yes-index false)) (none_marked (drop (l.yes-index + 1) s)) ∙ ap (λ (b : Bool). l.none && b) (sym (none_on s l.yes-index h)) ∙ l.invariant

pub returns : goal.returns
unfolding none_marked
returns c =
    let l = c.loop-yes in
    let s = c.args.set in
    let e : l.yes-index ≡ length s = search rules in
    sym (and-true l.none) ∙ ap (λ (n : List Bool). l.none && none_marked n) (sym (ap (λ (k : ℕ). drop k s) e ∙ drop-length s)) ∙ l.invariant
