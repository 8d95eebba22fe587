-- What an inspection that is not refused may count on.
-- Assumes nothing.
use Rattle.std.specs.Prelude.{◌≡◌, List, ℕ, length}
use Rattle.std.proofs.Common.{sym}
use Rattle.unit.specs.declared.mux.Mux.{Mux}
use Rattle.unit.specs.Refusals.{WORDS, refusal, of_inspection}
use Rattle.unit.specs.Sound.{Sound}
use Rattle.unit.proofs.laws.Sound.{inspection_iff}

pub sound : (u : Mux) (m : List ℕ) → 0 ≡ refusal (of_inspection u m) → Sound u
sound u m h = ((inspection_iff u m).0 (sym h)).0

pub whole : (u : Mux) (m : List ℕ) → 0 ≡ refusal (of_inspection u m) → length m ≡ WORDS
whole u m h = ((inspection_iff u m).0 (sym h)).1
