-- `recording::field::set_in` meets its contract: 128 bytes after the numbers, or none.
use Rattle.std.proofs.Common.{ℕ, Bool, true, List, drop, sym, refl, ap, ◌∙◌}
use Rattle.recording.specs.Layout.{layout_in}
use Rattle.recording.specs.Field.{marks_in, past_numbers}
use Rattle.recording.specs.laws.Parts.{past-numbers}
use Rattle.recording.proofs.field.set_in.Goals as goal

pub returns-then-l : goal.returns-then-l
returns-then-l c =
    let l = layout_in c.args.l in
    let bs = c.args.bytes.now in
    c.marks_at.ensures ∙ ap (λ (n : ℕ). marks_in true (drop n bs)) c.set_at.ensures.is ∙ ap (λ (ys : List ℕ). marks_in true ys) (sym (past-numbers l bs))
    ∙ ap (λ (b : Bool). marks_in b (past_numbers l (drop 3 bs))) (sym c.if-l.true)

pub returns : goal.returns
unfolding marks_in
returns c = rw c.if-l.false refl
