-- The data bits put together, over any number of them.
--   data_cut    bits of a character make the character cut to so many
--   data_same   levels that agree give the same number
--   bit_read    and each bit of the number is the level of its baud, so no other number has these bits
--   count_of, ones_data   its ones are the bauds at mark
--   count_but_one        with one baud the other way they are one more or one fewer
-- Not here: where the bauds lie, in specs/Form; the cut by control bits, in Eds8.
-- Assumes nothing.
use Rattle.std.specs.Prelude.{◌≡◌, refl, ◌⊎◌}
use Rattle.std.proofs.Math.Path.{sym, ap, ap₂}
use Rattle.std.proofs.Common.{◌∙◌, inl, inr, le_of_suc-le-suc, not-suc-le-zero, eq-or-lt_of_le, mod-eq_of_lt, arith}
use Prim.Native.Nat.{ℕ, zero, suc, ◌+◌, ◌-◌, ◌*◌, ◌/◌, ◌%◌, ◌^◌, ◌<◌}
use Rattle.std.proofs.Math.Nat.{mod-one}
use Rattle.std.proofs.Math.Numerals.{one-add}
use Rattle.std.proofs.lemmas.Nat.{mod-pow-add}
use Rattle.std.proofs.Math.Pow.{mod-mod-pow, field, high, low}
use Rattle.std.specs.Int.Count.{ones, ones_in, ones_cat}
use Rattle.framing.specs.Cells.{bit_at}
use Rattle.framing.specs.Read.{data_of}
use Rattle.framing.specs.laws.Read.{data_below}

-- a number of one bit
one_ones : (x : ℕ) → x < 2 → ones x ≡ x
unfolding ones ones_in
one_ones zero h = refl
one_ones (suc zero) h = refl
one_ones (suc (suc x)) h = absurd (omega (arith, h))

-- a bit lies in the number's lower digits
bit_low : (x j k : ℕ) → bit_at x k ≡ bit_at (x % 2 ^ (j + (1 + k))) k
unfolding bit_at
bit_low x j k = sym (field x 1 k) ∙ ap (λ (y : ℕ). y / 2 ^ k) (sym (mod-mod-pow x j (1 + k))) ∙ field (x % 2 ^ (j + (1 + k))) 1 k

-- two lines that agree in these bauds
pub data_same : (g h : ℕ → ℕ) (n : ℕ) → ((k : ℕ) → k < n → g (2 * suc k) ≡ h (2 * suc k)) → data_of g n ≡ data_of h n
unfolding data_of
data_same g h zero e = refl
data_same g h (suc m) e = ap₂ (λ (x y : ℕ). x * 2 ^ m + y) (e m (omega arith)) (data_same g h m (λ k l. e k (omega (arith, l))))

-- how many of the bauds 1 to n are at mark
unfoldable pub count_of : (ℕ → ℕ) → ℕ → ℕ
count_of g zero = 0
count_of g (suc k) = g (2 * suc k) + count_of g k

module _ (g : ℕ → ℕ) where
  -- a character's bits, put together, are the character cut to so many
  pub data_cut : (c n : ℕ) → ((k : ℕ) → k < n → g (2 * suc k) ≡ bit_at c k) → data_of g n ≡ c % 2 ^ n
  unfolding data_of bit_at
  data_cut c zero h = sym (mod-one c)
  data_cut c (suc m) h =
      ap₂ (λ (x y : ℕ). x * 2 ^ m + y) (h m (omega arith)) (data_cut c m (λ k l. h k (omega (arith, l))))
      ∙ sym (mod-pow-add c 1 m)
      ∙ ap (λ (x : ℕ). c % 2 ^ x) (one-add m)

  module _ (below : (i : ℕ) → g i < 2) where
    -- each bit of the number is the level of its baud
    pub bit_read : (n k : ℕ) → k < n → bit_at (data_of g n) k ≡ g (2 * suc k)
    unfolding data_of bit_at
    bit_read zero k h = absurd (not-suc-le-zero h)
    bit_read (suc m) k h = go (bit_read m k) (eq-or-lt_of_le (le_of_suc-le-suc h))
      where
        rest : data_of g m < 2 ^ m
        rest = data_below g below m

        top : bit_at (g (2 * suc m) * 2 ^ m + data_of g m) m ≡ g (2 * suc m)
        top = ap (λ (x : ℕ). x % 2) (high (g (2 * suc m)) m rest) ∙ mod-eq_of_lt (below (2 * suc m))

        lower : k < m → bit_at (g (2 * suc m) * 2 ^ m + data_of g m) k ≡ bit_at (data_of g m) k
        lower l =
            let e : (m - (1 + k)) + (1 + k) ≡ m = omega (arith, l) in
            bit_low (g (2 * suc m) * 2 ^ m + data_of g m) (m - (1 + k)) k
            ∙ ap (λ (x : ℕ). bit_at ((g (2 * suc m) * 2 ^ m + data_of g m) % 2 ^ x) k) e
            ∙ ap (λ (x : ℕ). bit_at x k) (low (g (2 * suc m)) m rest)

        go : (k < m → bit_at (data_of g m) k ≡ g (2 * suc k)) → (k ≡ m) ⊎ (k < m) → bit_at (g (2 * suc m) * 2 ^ m + data_of g m) k ≡ g (2 * suc k)
        go more (inl e) = rw e top
        go more (inr l) = lower l ∙ more l

    -- these are the number's ones
    pub ones_data : (n : ℕ) → ones (data_of g n) ≡ count_of g n
    unfolding data_of count_of
    ones_data zero = one_ones 0 (omega arith)
    ones_data (suc m) =
        ones_cat m (g (2 * suc m)) (data_of g m) (data_below g below m)
        ∙ ap₂ (λ (x y : ℕ). x + y) (one_ones (g (2 * suc m)) (below (2 * suc m))) (ones_data m)

-- two lines that agree in bauds 1 to n
count_same : (g h : ℕ → ℕ) (n : ℕ) → ((j : ℕ) → j < n → h (2 * suc j) ≡ g (2 * suc j)) → count_of h n ≡ count_of g n
unfolding count_of
count_same g h zero e = refl
count_same g h (suc m) e = ap₂ (λ (x y : ℕ). x + y) (e m (omega arith)) (count_same g h m (λ j l. e j (omega (arith, l))))

-- two that agree in all of these but one: their counts differ by that one
pub count_but_one : (g h : ℕ → ℕ) (n k : ℕ) → k < n → ((j : ℕ) → j < n → (j ≡ k → ⊥) → h (2 * suc j) ≡ g (2 * suc j)) → count_of h n + g (2 * suc k) ≡ count_of g n + h (2 * suc k)
unfolding count_of
count_but_one g h zero k l e = absurd (not-suc-le-zero l)
count_but_one g h (suc m) k l e = go (λ t. count_but_one g h m k t (λ j u. e j (omega (arith, u)))) (eq-or-lt_of_le (le_of_suc-le-suc l))
  where
    go : (k < m → count_of h m + g (2 * suc k) ≡ count_of g m + h (2 * suc k)) → (k ≡ m) ⊎ (k < m) → (h (2 * suc m) + count_of h m) + g (2 * suc k) ≡ (g (2 * suc m) + count_of g m) + h (2 * suc k)
    go more (inl i) =
        let s : count_of h m ≡ count_of g m = count_same g h m (λ j t. e j (omega (arith, t)) (λ q. omega (arith, t, q, i))) in
        rw (i, s) (omega arith)
    go more (inr t) =
        let r = more t in
        let s : h (2 * suc m) ≡ g (2 * suc m) = e m (omega arith) (λ q. omega (arith, t, q)) in
        omega (arith, r, s)
