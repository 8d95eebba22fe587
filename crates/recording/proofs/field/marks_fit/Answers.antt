-- `recording::field::marks_fit` meets its contract: every byte of the 128 is asked; past the end there is none.
use Rattle.std.proofs.Common.{◌≡◌, ℕ, zero, suc, Bool, true, ◌&&◌, leb, List, [], ◌∷◌, take, drop, refl, sym, ap, ◌∙◌, rules, tests}
use Rattle.std.specs.List.{list_all}
use Rattle.std.proofs.lemmas.Iterator.{YieldsList-from_slice, YieldsList-from_take}
use Rattle.std.proofs.lemmas.Iterator.Adapters.{YieldsList-from_skip}
use Rattle.std.proofs.lemmas.Iterator.Consumers.{YieldsList-at}
use Rattle.std.proofs.lemmas.Iterator.Search.{all_from_yields_List}
use Rattle.recording.specs.Field.{marks}
use Rattle.recording.proofs.field.marks_fit.Goals as goal

marks_none : (n : ℕ) → marks n [] ≡ true
unfolding marks
marks_none zero = refl
marks_none (suc n) = marks_none n

marks_all : (n : ℕ) (bs : List ℕ) → list_all (λ b. leb b 1) (take n bs) ≡ marks n bs
unfolding marks
marks_all zero bs = refl
marks_all (suc n) [] = sym (marks_none n)
marks_all (suc n) (b ∷ bs) = ap (λ (t : Bool). leb b 1 && t) (marks_all n bs)

pub returns : goal.returns
returns c =
    let a = c.args in
    all_from_yields_List (λ b. leb b 1) _ _ _ c.all.ensures.ran
    (YieldsList-from_take 128 (YieldsList-at c.take.ensures.source (YieldsList-from_skip a.at (YieldsList-at c.skip.ensures.source (YieldsList-from_slice a.bytes.now (cc))) c.skip.ensures.count)) c.take.ensures.count)
    (λ x b q k. search (rules, tests)) ∙ marks_all 128 (drop a.at a.bytes.now)
