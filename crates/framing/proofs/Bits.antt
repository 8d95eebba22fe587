-- One data bit more, as the byte of the character takes it.
-- Assumes nothing.
use Rattle.std.specs.Prelude.{◌≡◌, List, ℕ, suc, ◌+◌, ◌*◌, ◌%◌, ◌^◌, ◌<◌, ◌≤◌}
use Rattle.std.proofs.Common.{arith, mod-eq_of_lt, mul-le-mul_right, one-mul, pow-suc, pow_mono, add_comm, add-one}
use Rattle.framing.specs.Read.{level_at, data_of}
use Rattle.framing.specs.laws.Read.{data_below}
use Rattle.framing.proofs.laws.Read.{level_at_below}

module _ (cells : List ℕ) (k : ℕ) (h : k < 8) where
  -- the bit at its place, and the byte with it
  small : (level_at cells (2 * suc k) * 2 ^ k ≤ 2 ^ k) × (2 ^ suc k ≤ 256)
  small = (
    let b : level_at cells (2 * suc k) ≤ 1 = omega (arith, level_at_below cells (2 * suc k)) in
        let top : level_at cells (2 * suc k) * 2 ^ k ≤ 1 * 2 ^ k = mul-le-mul_right (2 ^ k) b in
        omega (arith, top, one-mul (2 ^ k)),
    pow_mono {i = suc k} {j = 8} (omega arith),
  )

  -- nothing is shifted out of it
  whole : level_at cells (2 * k + 2) * 2 ^ k % 256 ≡ level_at cells (2 * suc k) * 2 ^ k
  whole =
      let q : 2 * k + 2 ≡ 2 * suc k = omega arith in
      rw q (mod-eq_of_lt (omega (arith, small, pow-suc 2 k, pow_mono {i = 0} {j = k} (omega arith))))

  pub data_fits : data_of (level_at cells) k + level_at cells (2 * k + 2) * 2 ^ k % 256 < 256
  data_fits = omega (arith, whole, small, pow-suc 2 k, data_below (level_at cells) (level_at_below cells) k)

  pub data_more : data_of (level_at cells) (k + 1) ≡ data_of (level_at cells) k + level_at cells (2 * k + 2) * 2 ^ k % 256
  unfolding data_of
  data_more = rw (whole, add-one k) (add_comm _ (data_of (level_at cells) k))
