-- A character of any length has at least one code.
-- Not here: what a length is, in specs/Length.
-- Assumes nothing.
use Rattle.std.specs.Prelude.{ℕ, ◌<◌}
use Rattle.std.proofs.Common.{pow_pos}
use Rattle.words.specs.Length.{length_of, span_of}

pub span_positive : (control : ℕ) → 0 < span_of control
unfolding span_of
span_positive control = pow_pos (length_of control)
