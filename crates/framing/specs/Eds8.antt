-- The form that an EDS-8's control bits ask for (document 02, K3; 001, 4.2 bits 8 to 12).
-- Not here: the control bits, in words, Codes; that its cut is the base's own, in laws/Eds8.
-- Assumes nothing.
use Rattle.std.specs.Prelude.{ℕ, eqb}
use Rattle.ground.specs.Choose.{pick}
use Rattle.words.specs.Field.{get}
use Rattle.words.specs.Codes.{PARITY-INHIBIT, STOP-BAUDS, LENGTH, EVEN-PARITY}
use Rattle.framing.specs.declared.form.DataBits.{DataBits}
use Rattle.framing.specs.declared.form.Parity.{Parity}
use Rattle.framing.specs.declared.form.Parity.TheVariants.{Inhibited, Odd, Even}
use Rattle.framing.specs.declared.form.Stops.{Stops}
use Rattle.framing.specs.declared.form.Stops.TheVariants.{One, Two}
use Rattle.framing.specs.declared.form.Form.{Form}
use Rattle.framing.specs.Number.{bits_numbered}

-- bits 10 and 11: 00 to 11 are 5 to 8
unfoldable pub bits_of : ℕ → DataBits
bits_of control = bits_numbered (get LENGTH control)

-- bit 8: 1 is none; else bit 12: 1 is even, 0 odd
unfoldable pub parity_of : ℕ → Parity
parity_of control = pick (eqb (get PARITY-INHIBIT control) 1) Inhibited (pick (eqb (get EVEN-PARITY control) 1) Even Odd)

-- bit 9: 1 is two, 0 one
unfoldable pub stops_of : ℕ → Stops
stops_of control = pick (eqb (get STOP-BAUDS control) 1) Two One

unfoldable pub form_of : ℕ → Form
form_of control = record { bits = bits_of control; parity = parity_of control; stops = stops_of control }
