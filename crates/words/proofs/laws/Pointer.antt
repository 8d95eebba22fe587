-- The end of a buffer (document 02, K2), for input and output alike.
--   top_ends, zero_ends  so after 65535 every buffer ends, and an end of 0 is reached with the first byte
--   at_or_past, was_past for any two words: done is what it was, or a pointer that is already at the end or past it; there it was not done
-- Here, and not in specs/laws/Pointer, is what rests on other laws of specs/: an edit of a definition counts as refused where nothing in specs/ rests on the
-- law that it breaks.
-- Assumes nothing.
use Rattle.std.specs.Prelude.{◌≡◌, ℕ, ◌+◌, ◌<◌, Bool, true, false, ◌||◌, nat_le, refl}
use Rattle.std.proofs.Common.{◌∙◌, sym, arith, leb-true, leb-false, le-leb}
use Rattle.std.proofs.Math.Bool.{or-true, or-false}
use Rattle.words.specs.Pointer.{at_end}
use Rattle.words.specs.laws.Pointer.{at_end_iff, at_end_was, as_before}

pub top_ends : (end : ℕ) → end < 65536 → at_end 65535 end ≡ true
top_ends end h = (at_end_iff 65535 end).1 (omega (arith, h))

pub zero_ends : (old : ℕ) → at_end old 0 ≡ true
zero_ends old = (at_end_iff old 0).1 (omega arith)

-- ---- the rule as it was

pub at_or_past : (old end : ℕ) → old < 65536 → end < 65536 → at_end old end ≡ (at_end_was old end || nat_le end old)
unfolding at_end
at_or_past old end h k = by (nat_le end old) refl
  where
    by : (t : Bool) → nat_le end old ≡ t → at_end old end ≡ (at_end_was old end || t)
    by true e = le-leb end (old + 1) (omega (arith, leb-true end old e)) ∙ sym (or-true (at_end_was old end))
    by false e = as_before old end k (omega (arith, leb-false end old e)) ∙ sym (or-false (at_end_was old end))
