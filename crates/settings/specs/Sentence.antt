-- The sentence for a refusal of setup, as docs/CARETAKER.md has it.
-- Assumes nothing.
use Rattle.std.specs.Prelude.{List, ℕ, codes}
use Rattle.unit.specs.declared.refusal.Refusal.{Refusal}
use Rattle.unit.specs.declared.refusal.Refusal.TheVariants.{BadBlock, BadPorts, Misaligned, Crosses, TooHigh, BadLocation}

abbrev pub sentence : Refusal → List ℕ
sentence BadBlock = codes "the block size is not 8, 16 or 32"
sentence BadPorts = codes "the number of ports is 0, or above 128"
sentence Misaligned = codes "the base is not a multiple of 8 times the block size"
sentence TooHigh = codes "the base is above 32767, the last word of the memory"
sentence BadLocation = codes "the base is not a multiple of 256, which is octal 400, as a Mighty Mux needs"
sentence Crosses = codes "the control area crosses a multiple of 128 times the block size"
sentence _ = codes "no sentence is known for this number"
