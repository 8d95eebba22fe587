-- The end of a buffer (document 02, K2), for input and output alike.
--   two_thousand, last_ends   the request's own pointers with ends around them, computed
--   at_end_iff           the end is reached exactly where it is at most the old pointer + 1
--   goes_on              where it is not reached, the pointer steps by one with no jump to 0
--   at_end_was             the rule before K2, kept for the laws below: the new pointer equals the end
--   as_before            the two agree where the old pointer + 1 is below the end or equal to it
--   at_or_past, was_past for any two words: done is what it was, or a pointer that is already at the end or past it; there it was not done
-- In proofs/laws/Pointer, since they rest on these: top_ends, zero_ends, at_or_past.
-- Not here: the definition, in specs/Pointer; services one after the other, in Buffer.
-- Assumes nothing.
use Rattle.std.specs.Prelude.{◌≡◌, ℕ, ◌+◌, ◌<◌, ◌≤◌, Bool, true, false, ◌==◌, nat_le, refl}
use Rattle.std.proofs.Common.{arith, leb-true, leb-false, le-leb, eqb-true, ne_eqb}
use Rattle.std.proofs.lemmas.Bool.{lt-leb, eqb-false}
use Rattle.words.specs.Pointer.{step_ptr, at_end}

-- after 2003 a buffer with the end 2003 or 2004 ends with the next byte, one with the end 2005 does not
pub two_thousand : (at_end 2003 2003 ≡ true) × (at_end 2003 2004 ≡ true) × (at_end 2003 2005 ≡ false)
unfolding at_end
two_thousand = (refl, refl, refl)

-- after 65535 one with the end 65535 or 0 does, after 65534 one with 65535, and after 65533 it does not
pub last_ends : (at_end 65535 65535 ≡ true) × (at_end 65535 0 ≡ true) × (at_end 65534 65535 ≡ true) × (at_end 65533 65535 ≡ false)
unfolding at_end
last_ends = (refl, refl, refl, refl)

pub at_end_iff : (old end : ℕ) → (at_end old end ≡ true → end ≤ old + 1) × (end ≤ old + 1 → at_end old end ≡ true)
unfolding at_end
at_end_iff old end = (leb-true end (old + 1), le-leb end (old + 1))

pub goes_on : (old end : ℕ) → end < 65536 → at_end old end ≡ false → (step_ptr old ≡ old + 1) × (old + 1 < end)
unfolding at_end
goes_on old end h e = (omega (arith, h, leb-false end (old + 1) e), leb-false end (old + 1) e)

-- ---- the rule as it was

unfoldable pub at_end_was : ℕ → ℕ → Bool
at_end_was old end = step_ptr old == end

pub as_before : (old end : ℕ) → end < 65536 → old + 1 ≤ end → at_end old end ≡ at_end_was old end
unfolding at_end at_end_was
as_before old end h k = by (step_ptr old == end) refl
  where
    by : (t : Bool) → (step_ptr old == end) ≡ t → nat_le end (old + 1) ≡ t
    by true e = le-leb end (old + 1) (omega (arith, h, k, eqb-true (step_ptr old) end e))
    by false e = lt-leb end (old + 1) (omega (arith, h, k, eqb-false (step_ptr old) end e))

pub was_past : (old end : ℕ) → end ≤ old → old < 65535 → at_end_was old end ≡ false
unfolding at_end_was
was_past old end h k = ne_eqb (step_ptr old) end (λ e. omega (arith, h, k, e))
