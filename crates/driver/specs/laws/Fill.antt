-- The numbers of orders 18 and 21, filled one after the other.
--   Filling, filling_none, filling_on, filling_all   a list of which some places are filled
--   series_run                                       a list filled by calls that each go on by one number
-- Not here: the series, in Host.
-- Assumes nothing.
use Rattle.std.specs.Prelude.{◌≡◌, refl, List, [], ◌∷◌, ◌++◌, length, set}
use Rattle.std.specs.List.{FoldsTo}
use Rattle.std.proofs.Math.Path.{sym}
use Rattle.std.proofs.Common.{◌∙◌, ap, append-nil}
use Prim.Native.Nat.{ℕ, suc, ◌+◌, ◌-◌, ◌/◌, ◌%◌, ◌<◌, ◌≤◌}
use Rattle.std.proofs.Math.Numerals.{add-one}
use native.Mathlib.Omega.{arith}
use Rattle.std.proofs.Math.ListN.{take, length-set}
use Rattle.std.proofs.Math.Seq.{take-suc-set, take_all, append_snoc}
use Rattle.ground.specs.Choose.{Below}
use Rattle.driver.specs.Host.{next, series}

-- a list of n places of which i are filled: these, and then the series that follows here, are the whole series
pub record Filling (m n seed : ℕ) (now : List ℕ) (x i : ℕ) : Type 0 where
  pub small : x < 4294967296
  pub within : i ≤ length now
  pub long : length now ≡ n
  pub rest : take i now ++ series m (n - i) x ≡ series m n seed

module _ (m seed : ℕ) where
  pub filling_none : (now : List ℕ) → seed < 4294967296 → Filling m (length now) seed now seed 0
  filling_none now h =
      record { small = h; within = omega arith; long = refl; rest = ap (λ (n : ℕ). series m n seed) (omega arith) }

  -- one more place
  pub filling_on : (n : ℕ) (now : List ℕ) (x i y v : ℕ) → i < length now → Below 2147483647 (next x) y → v ≡ y / 16 % m → Filling m n seed now x i → Filling m n seed (set now i v) y (i + 1)
  unfolding series
  filling_on n now x i y v h b e f =
      let k : n - i ≡ suc (n - (i + 1)) = omega (arith, f.long) in
      let whole : take i now ++ (next x / 16 % m ∷ series m (n - (i + 1)) (next x)) ≡ series m n seed = rw k at f.rest in
      record {
        small = omega (arith, b.below);
        within = simp length-set (omega arith);
        long = simp length-set f.long;
        rest = rw (e, b.is, add-one i, take-suc-set now i (next x / 16 % m) h) (append_snoc (take i now) (next x / 16 % m) (series m (n - suc i) (next x)) ∙ (rw add-one at whole));
      }

  -- all of them
  pub filling_all : (n : ℕ) (now : List ℕ) (x i : ℕ) → n ≤ i → Filling m n seed now x i → now ≡ series m n seed
  unfolding series
  filling_all n now x i h f =
      let k : n - i ≡ 0 = omega arith in
      sym (rw (k, take_all i now (omega (arith, f.long))) (append-nil now)) ∙ f.rest

-- a list filled by calls: each goes on to the next number and keeps its m, and leaves its place with what is below m of that number
pub series_run : {S : Type 0} (R : S → ℕ → S → Type 0) (at m : S → ℕ) → ((s : S) (v : ℕ) (t : S) → R s v t → (m t ≡ m s) × (at t ≡ next (at s)) × (v ≡ at t / 16 % m s)) → (s : S) (vs : List ℕ) (last : S) → FoldsTo R s vs last → vs ≡ series (m s) (length vs) (at s)
unfolding series
series_run R at m h s [] last r = refl
series_run R at m h s (v ∷ vs) last r =
    let p = h s v r.0 r.1 in
    let here : v ≡ next (at s) / 16 % m s = p.2 ∙ ap (λ (x : ℕ). x / 16 % m s) p.1 in
    let rest : vs ≡ series (m s) (length vs) (next (at s)) =
    series_run R at m h r.0 vs last r.2 ∙ ap (λ (k : ℕ). series k (length vs) (at r.0)) p.0 ∙ ap (series (m s) (length vs)) p.1 in
    λ i. here i ∷ rest i
