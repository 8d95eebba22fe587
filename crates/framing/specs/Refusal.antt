-- Why a frame is not written or not read (document 02, K3).
-- Not here: when each comes, in Write and Read.
-- Assumes nothing.
use Rattle.std.specs.Prelude.{ℕ}
use Rattle.framing.specs.declared.refusal.Refusal.{Refusal}
use Rattle.framing.specs.declared.refusal.Refusal.TheVariants.{NoRoom, TooShort, NoFrame}

-- the number of a refusal
abbrev pub number_of : Refusal → ℕ
number_of NoRoom = 18
number_of TooShort = 19
number_of NoFrame = 20
