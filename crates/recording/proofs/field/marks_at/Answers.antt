-- `recording::field::marks_at` meets its contract: each code has its byte's word.
use Rattle.std.proofs.Common.{ℕ, ◌+◌, false, eqb, get_or, drop, sym, ap, ◌∙◌, rules, tests, get_or-drop}
use Rattle.ground.specs.laws.Arrays.{tab_ext}
use Rattle.recording.specs.Field.{marks_in}
use Rattle.ground.specs.laws.Filled.{from_rule}
use Rattle.recording.proofs.field.marks_at.Goals as goal

pub returns : goal.returns
unfolding marks_in
returns c =
    let at = c.args.at in
    let bs = c.args.bytes.now in
    from_rule _ (λ k. eqb (get_or bs (at + k) 0) 1) _ (λ i y q k. search (rules, tests)) c.from_fn.result 128 false c.from_fn.ensures.items
    ∙ tab_ext 128 (λ k. eqb (get_or bs (at + k) 0) 1) (λ k. eqb (get_or (drop at bs) k 0) 1) (λ k l. ap (λ (n : ℕ). eqb n 1) (sym (get_or-drop at bs k 0)))
