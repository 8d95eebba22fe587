-- `recording::field::read_fits` meets its contract: the numbers, and the set where there is one.
use Rattle.std.proofs.Common.{◌≡◌, ℕ, Bool, ◌&&◌, List, drop, sym, ap, ◌∙◌}
use Rattle.recording.specs.Layout.{layout_in}
use Rattle.recording.specs.Field.{marks, past_numbers, read_fits}
use Rattle.recording.specs.laws.Parts.{past-numbers}
use Rattle.recording.proofs.field.read_fits.Goals as goal

pub returns-then-l : goal.returns-then-l
unfolding read_fits
returns-then-l c =
    let a = c.args in
    let bs = a.bytes.now in
    let l = layout_in c.layout_of-l.result in
    let m : c.marks_fit.result ≡ marks 128 (past_numbers l (drop 3 bs)) =
    c.marks_fit.ensures ∙ ap (λ (n : ℕ). marks 128 (drop n bs)) c.set_at.ensures.is ∙ ap (λ (ys : List ℕ). marks 128 ys) (sym (past-numbers l bs)) in
    rw (← c.tag_in.ensures, ← c.layout_of-l.ensures, ← c.event_in.ensures, ← c.numbers_fit-fit.ensures, c.if-l.true) (ap (λ (t : Bool). c.numbers_fit-fit.result && t) m)
