-- `words::length::span_of` meets its contract: each entry of the table is the power of two for its length.
use Rattle.std.proofs.Common.{◌≡◌, ℕ, zero, suc, ◌+◌, ◌^◌, ◌<◌, [], ◌∷◌, get_or, refl, ap, ◌∙◌, arith}
use Rattle.words.specs.Length.{span_of, length_of}
use Rattle.words.proofs.length.span_of.Goals as goal

spans : (k : ℕ) → k < 4 → get_or (32 ∷ 64 ∷ 128 ∷ 256 ∷ []) k 0 ≡ 2 ^ (5 + k)
spans zero h = refl
spans (suc zero) h = refl
spans (suc (suc zero)) h = refl
spans (suc (suc (suc zero))) h = refl
spans (suc (suc (suc (suc k)))) h = absurd (omega arith)

pub returns : goal.returns
unfolding span_of length_of
returns c = spans c.get-at.result c.get-at.ensures.below ∙ ap (λ (k : ℕ). 2 ^ (5 + k)) c.get-at.ensures.is
