-- A number's decimal digits.
--   numeral_length   no more of them than asked for
--   numeral_is       the fewest digits that hold a number, which `io::decimal` gives, are its digits without leading zeros
--   fewest_twenty    no number below 2^64 takes more than twenty
-- Not here: what the digits are, in Printed.
-- Assumes nothing.
use Rattle.std.specs.Prelude.{◌≡◌, Bool, true, false, List, [], ◌∷◌, ◌++◌, ℕ, zero, suc, ◌+◌, ◌-◌, ◌/◌, ◌%◌, ◌^◌, ◌<◌, ◌≤◌, ltb, length}
use Rattle.std.proofs.Common.{ap, pow-suc, le-div_iff_mul-le, div-lt_iff_lt-mul, mod-eq_of_lt, mod-lt, arith, length-append, lt-ltb, le-ltb}
use Rattle.std.proofs.Math.Nat.{pow-le-pow_right, one-le-pow}
use Rattle.std.proofs.Math.Decide.{dec_lt}
use Rattle.io.specs.Digits.{last_digits, IsDigitCount}
use Rattle.ground.specs.Choose.{pick}
use Rattle.driver.specs.Printed.{numeral}

-- a number has at most as many digits as it may
pub numeral_length : (k x : ℕ) → length (numeral k x) ≤ k
unfolding numeral pick
numeral_length zero x = omega arith
numeral_length (suc k) x = go (ltb x 10) (numeral_length k (x / 10))
  where
    go : (t : Bool) → length (numeral k (x / 10)) ≤ k → length (pick t ((48 + x) ∷ []) (numeral k (x / 10) ++ ((48 + x % 10) ∷ []))) ≤ suc k
    go true h = omega arith
    go false h = simp length-append (omega arith)

-- the fewest digits that hold a number are its digits without leading zeros
pub numeral_is : (k r x : ℕ) → r ≤ k → IsDigitCount 10 1 x r → last_digits 10 r x ≡ numeral k x
unfolding numeral pick
numeral_is k zero x h f = absurd (omega (arith, f.0))
numeral_is zero (suc r) x h f = absurd (omega arith)
numeral_is (suc k) (suc zero) x h f =
    let l : x < 10 = omega (arith, f.1) in
    rw (lt-ltb x 10 l, mod-eq_of_lt l, lt-ltb x 10 l)
numeral_is (suc k) (suc (suc r)) x h f =
    let e : suc (suc r) - 1 ≡ suc r = omega arith in
    let m : 10 ^ suc r ≤ x = rw e at (f.2 (omega arith)) in
    let big : 10 ≤ x = omega (arith, pow-suc 10 r, one-le-pow r 10 (omega arith), m) in
    let low : x / 10 < 10 ^ suc r = (div-lt_iff_lt-mul {k = 10} {x = x} {y = 10 ^ suc r} (omega arith)).1 (rw (← pow-suc 10 (suc r)) f.1) in
    let e₂ : suc r - 1 ≡ r = omega arith in
    let rest = numeral_is k (suc r) (x / 10) (omega arith) (omega arith, low, λ g. rw e₂ ((le-div_iff_mul-le {k = 10} {x = 10 ^ r} {y = x} (omega arith)).1 (rw (← pow-suc 10 r) m))) in
    rw (le-ltb x 10 big, lt-ltb (x % 10) 10 (mod-lt x (omega arith))) (ap (λ (ds : List ℕ). ds ++ ((48 + x % 10) ∷ [])) rest)

-- no number below 2^64 takes more than twenty digits
pub fewest_twenty : (r x : ℕ) → x < 18446744073709551616 → IsDigitCount 10 1 x r → r ≤ 20
fewest_twenty r x h f = go (dec_lt 20 r)
  where
    go : Dec (20 < r) → r ≤ 20
    go (yes l) = absurd (omega (arith, f.2 (omega arith), pow-le-pow_right {n = 10} (omega arith) {i = 20} {j = r - 1} (omega arith)))
    go (no l) = omega arith
