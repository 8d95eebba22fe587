-- A loop over a lent list, by what is left of it.
--   run_more, run_end   a run over what is left: one act more, and none
use Rattle.std.proofs.Common.{◌≡◌, ℕ, ◌+◌, ◌<◌, List, length, get_or, drop, sym, ◌∙◌, ap, add-one, drop-cons}
use Rattle.std.proofs.Math.Seq.{drop-length}
use Rattle.ground.specs.Machine.{run}

module _ {S A : Type 0} (step : S → A → S) (s : S) (xs : List A) (i : ℕ) where
  pub run_more : (d : A) → i < length xs → run step (step s (get_or xs i d)) (drop (i + 1) xs) ≡ run step s (drop i xs)
  unfolding run
  run_more d h = ap (λ (n : ℕ). run step (step s (get_or xs i d)) (drop n xs)) (add-one i) ∙ sym (ap (λ (ys : List A). run step s ys) (drop-cons xs i d h))

  pub run_end : i ≡ length xs → run step s (drop i xs) ≡ s
  unfolding run
  run_end e = ap (λ (ys : List A). run step s ys) (ap (λ (n : ℕ). drop n xs) e ∙ drop-length xs)
