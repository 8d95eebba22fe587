-- Byte pointers, for input and output alike (document 01, Input 6 and Output 01; document 02, K2).
-- Not here: the byte at a pointer, in Byte; what follows, in laws/Pointer.
-- Assumes nothing.
use Rattle.std.specs.Prelude.{ℕ, ◌+◌, ◌%◌, Bool, nat_le}

-- a byte pointer one place on; past 65535 it starts again at 0
abbrev pub step_ptr : ℕ → ℕ
step_ptr p = (p + 1) % 65536

-- the end is reached where the old pointer + 1, taken without the step from 65535 to 0, is at least the end
unfoldable pub at_end : ℕ → ℕ → Bool
at_end old end = nat_le end (old + 1)
