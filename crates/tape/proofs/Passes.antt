-- The two passes, one after the other, come to the call.
--   both_passes   what they leave is what is written
--   both_answer   and what the first of them tells is an answer
use Rattle.std.proofs.Common.{◌≡◌, ℕ, ◌*◌, ◌<◌, ◌^◌, List, Ok, length, refl, sym, ◌∙◌, ap, subst}
use Rattle.ground.specs.Machine.{run}
use Rattle.recording.specs.declared.event.Event.{Event}
use Rattle.recording.specs.declared.reading.Done.{Done}
use Rattle.recording.specs.declared.pass.Pass.{Pass}
use Rattle.recording.specs.Scan.{Answers}
use Rattle.recording.specs.Pass.{Kept, kept, checked_on, passed, first_pass, second_pass, told, wrote, write}
use Rattle.recording.specs.laws.Passes.{checks_all, told_answers, two_passes}

-- what the two passes leave is what is written
pub both_passes : (es : List Event) (out : List ℕ) → length es * 148 < 2 ^ 63 → (f p s r : Pass) (ys zs : List ℕ) (d : Done) → f ≡ first_pass (length out) → kept p ys ≡ run passed (kept f out) es → s ≡ second_pass p → kept r zs ≡ run passed (kept s ys) es → d ≡ told p → wrote d zs ≡ write es out
both_passes es out small f p s r ys zs d e₀ e₁ e₂ e₃ e₄ =
    ap (λ (x : Done). wrote x zs) e₄ ∙ ap (λ (k : Kept Pass). wrote (told p) k.lent) e₃ ∙ ap (λ (q : Pass). wrote (told p) (run passed (kept q ys) es).lent) e₂
    ∙ ap (λ (k : Kept Pass). wrote (told k.state) (run passed (kept (second_pass k.state) k.lent) es).lent) e₁
    ∙ ap (λ (q : Pass). wrote (told (run passed (kept q out) es).state) (run passed (kept (second_pass (run passed (kept q out) es).state) (run passed (kept q out) es).lent) es).lent) e₀
    ∙ two_passes es out small

-- what the pass that checks tells
pub both_answer : (es : List Event) (out : List ℕ) (f p : Pass) (ys : List ℕ) (d : Done) → f ≡ first_pass (length out) → kept p ys ≡ run passed (kept f out) es → d ≡ told p → Answers d
both_answer es out f p ys d e₀ e₁ e₂ =
    let start = first_pass (length out) in
    let state : p ≡ run checked_on start es =
    ap (λ (k : Kept Pass). k.state) e₁ ∙ ap (λ (q : Pass). (run passed (kept q out) es).state) e₀ ∙ ap (λ (k : Kept Pass). k.state) (checks_all es start out refl)
    in
    subst Answers (sym (e₂ ∙ ap told state)) (told_answers es start (record { found = Ok tt; is = refl }))
