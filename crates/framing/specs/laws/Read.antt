-- What is read of a list of cells.
--   level_mark, level_below   any byte but 0 is a mark; a level is 0 or 1
--   data_below           n data bits make a number below 2 ^ n
--   data_step, data_narrow, data_end, whole_step, whole_end   the bauds taken from the top down
--   whole_all, whole_each   what the test of the halves says
-- In proofs/laws/Read, since they rest on these: level_at_below.
-- Not here: the definitions, in specs/Read; a written frame read back, in Frames.
-- Assumes nothing.
use Rattle.std.specs.Prelude.{◌≡◌, refl, Bool, true, false, ◌&&◌, ◌⊎◌, ℕ, zero, suc, ◌+◌, ◌-◌, ◌*◌, ◌^◌, ◌<◌, ◌≤◌, eqb}
use Rattle.std.proofs.Common.{sym, ◌∙◌, ap, inl, inr, le_of_suc-le-suc, not-suc-le-zero, eq-or-lt_of_le, mul-le-mul_left, mul-le-mul_right, mul-one, one-mul, add-zero, add-mul, add_assoc, mul_assoc, mul_comm, pow-suc, arith, lit<, pow_pos, pow_mono, eq-eqb, ne_eqb, eqb-true}
use Rattle.ground.specs.laws.Rows.{pick-false, and-true}
use Rattle.framing.specs.Cells.{space, mark}
use Rattle.framing.specs.Read.{level, alike, whole_to, data_of}
use Rattle.framing.specs.laws.Cells.{chosen_below}

-- 0 alone is space: any other byte is a mark
pub level_mark : (x : ℕ) → 0 < x → level x ≡ mark
unfolding level
level_mark x h = pick-false (eqb x 0) space mark (ne_eqb x 0 (λ e. omega (arith, e, h)))

pub level_below : (x : ℕ) → level x < 2
unfolding level
level_below x = chosen_below _ space mark (lit< tt) (lit< tt)

pub data_below : (g : ℕ → ℕ) → ((i : ℕ) → g i < 2) → (n : ℕ) → data_of g n < 2 ^ n
unfolding data_of
data_below g h zero = lit< tt
data_below g h (suc k) =
    let b = le_of_suc-le-suc (h (2 * suc k)) in
    let top : g (2 * suc k) * 2 ^ k ≤ 1 * 2 ^ k = mul-le-mul_right (2 ^ k) b in
    omega (arith, top, one-mul (2 ^ k), pow-suc 2 k, data_below g h k)

less : (m : ℕ) → suc m - 1 ≡ m
less m = omega arith

-- v stands for the bits above baud k; with that baud's it is the same number
pub data_step : (g : ℕ → ℕ) (k v : ℕ) → 0 < k → (v * 2 + g (2 * k)) * 2 ^ (k - 1) + data_of g (k - 1) ≡ v * 2 ^ k + data_of g k
unfolding data_of
data_step g zero v h = absurd (not-suc-le-zero h)
data_step g (suc m) v h =
    rw (less m)
    (ap (λ (x : ℕ). x + data_of g m) (add-mul (v * 2) (g (2 * suc m)) (2 ^ m) ∙ ap (λ (x : ℕ). x + g (2 * suc m) * 2 ^ m) (shift v (2 ^ m)))
    ∙ add_assoc _ _ _
    ∙ ap (λ (x : ℕ). v * x + (g (2 * suc m) * 2 ^ m + data_of g m)) (sym (pow-suc 2 m)))
  where
    shift : (a p : ℕ) → a * 2 * p ≡ a * (p * 2)
    shift a p = mul_assoc a 2 p ∙ ap (λ (x : ℕ). a * x) (mul_comm 2 p)

-- what is put together so far is a byte
pub data_narrow : (v k d x n : ℕ) → v * 2 ^ k + d ≡ x → x < 2 ^ n → n ≤ 8 → v < 256
data_narrow v k d x n e h l =
    let m : v * 1 ≤ v * 2 ^ k = mul-le-mul_left v (pow_pos k) in
    omega (arith, e, h, pow_mono {i = n} {j = 8} l, m, mul-one v)

-- the bauds above k are whole or not; with that one's word it is the same
pub whole_step : (g : ℕ → ℕ) (k : ℕ) (w : Bool) → 0 < k → ((w && alike g k) && whole_to g (k - 1)) ≡ (w && whole_to g k)
unfolding whole_to
whole_step g zero w h = absurd (not-suc-le-zero h)
whole_step g (suc m) true h = rw (less m) refl
whole_step g (suc m) false h = refl

-- at the end everything is put together
pub data_end : (g : ℕ → ℕ) (k v : ℕ) → k ≡ 0 → v * 2 ^ k + data_of g k ≡ v
unfolding data_of
data_end g k v e = rw e (add-zero (v * 1) ∙ mul-one v)

pub whole_end : (g : ℕ → ℕ) (k : ℕ) (w : Bool) → k ≡ 0 → (w && whole_to g k) ≡ w
unfolding whole_to
whole_end g k true e = rw e refl
whole_end g k false e = refl

-- ---- what the test of the halves says

alike_true : (g : ℕ → ℕ) (j : ℕ) → g (2 * j) ≡ g (2 * j + 1) → alike g j ≡ true
unfolding alike
alike_true g j e = eq-eqb (g (2 * j)) (g (2 * j + 1)) e

alike_both : (g : ℕ → ℕ) (j : ℕ) → alike g j ≡ true → g (2 * j) ≡ g (2 * j + 1)
unfolding alike
alike_both g j e = eqb-true (g (2 * j)) (g (2 * j + 1)) e

-- it is passed where both halves of each of the bauds 1 to m have one level
pub whole_all : (g : ℕ → ℕ) (m : ℕ) → ((j : ℕ) → 0 < j → j ≤ m → g (2 * j) ≡ g (2 * j + 1)) → whole_to g m ≡ true
unfolding whole_to
whole_all g zero h = refl
whole_all g (suc m) h =
    rw (alike_true g (suc m) (h (suc m) (omega arith) (omega arith))) (whole_all g m (λ j a b. h j a (omega (arith, b))))

-- and nowhere else
pub whole_each : (g : ℕ → ℕ) (m : ℕ) → whole_to g m ≡ true → (j : ℕ) → 0 < j → j ≤ m → g (2 * j) ≡ g (2 * j + 1)
unfolding whole_to
whole_each g zero e j a b = absurd (omega (arith, a, b))
whole_each g (suc m) e j a b = go (whole_each g m p.1 j a) (eq-or-lt_of_le b)
  where
    p : (alike g (suc m) ≡ true) × (whole_to g m ≡ true)
    p = and-true (alike g (suc m)) (whole_to g m) e

    go : (j ≤ m → g (2 * j) ≡ g (2 * j + 1)) → (j ≡ suc m) ⊎ (j < suc m) → g (2 * j) ≡ g (2 * j + 1)
    go more (inl i) = rw i (alike_both g (suc m) p.0)
    go more (inr l) = more (le_of_suc-le-suc l)
