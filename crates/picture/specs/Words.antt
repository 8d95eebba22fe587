-- A form's parity and stop in words, as its picture says them.
-- Assumes nothing.
use Rattle.std.specs.Prelude.{List, ℕ, codes}
use Rattle.framing.specs.declared.form.Parity.{Parity}
use Rattle.framing.specs.declared.form.Parity.TheVariants.{Inhibited, Odd, Even}
use Rattle.framing.specs.declared.form.Stops.{Stops}
use Rattle.framing.specs.declared.form.Stops.TheVariants.{One, OneAndHalf, Two}

abbrev pub parity_words : Parity → List ℕ
parity_words Inhibited = codes "no parity"
parity_words Odd = codes "odd parity"
parity_words Even = codes "even parity"

abbrev pub stop_words : Stops → List ℕ
stop_words One = codes "1 stop"
stop_words OneAndHalf = codes "1.5 stops"
stop_words Two = codes "2 stops"
