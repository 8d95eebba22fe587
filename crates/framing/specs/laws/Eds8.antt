-- The form of an EDS-8's control bits (document 02, K3; 001, 4.2 bits 8 to 12).
--   eds8_bits, eds8_cut        its length is the port's, and its cut the base's own
--   eds8_parity, eds8_sense    parity unless bit 8 inhibits it, even by bit 12
--   eds8_stops                 two stop cells, or four: never three
-- In proofs/laws/Eds8, since they rest on these: eds8_back.
-- Not here: the map itself, in specs/Eds8; what an arrival makes of a character that was read, in wire.
-- Assumes nothing.
use Rattle.std.specs.Prelude.{◌≡◌, refl, Bool, true, false, not, ℕ, zero, suc, ◌+◌, ◌-◌, ◌*◌, ◌/◌, ◌%◌, ◌^◌, ◌<◌, eqb}
use Rattle.std.proofs.Common.{ap, mod-lt, arith, lit<}
use Rattle.ground.specs.Choose.{pick}
use Rattle.words.specs.declared.field.Field.{Field}
use Rattle.words.specs.Field.{get}
use Rattle.words.specs.Codes.{PARITY-INHIBIT, STOP-BAUDS, LENGTH, EVEN-PARITY}
use Rattle.words.specs.Length.{length_of, span_of, cut}
use Rattle.framing.specs.declared.form.Parity.TheVariants.{Inhibited, Odd, Even}
use Rattle.framing.specs.declared.form.Stops.TheVariants.{One, Two}
use Rattle.framing.specs.Form.{bits_number, data_bits, checked, has_parity, halves_of, stop_cells}
use Rattle.framing.specs.Cells.{limited, sense_of, sense}
use Rattle.framing.specs.Number.{bits_numbered}
use Rattle.framing.specs.Eds8.{bits_of, parity_of, stops_of, form_of}

-- four codes, four lengths
lengths : (k : ℕ) → k < 4 → bits_number (bits_numbered k) ≡ 5 + k
unfolding bits_numbered pick
lengths zero h = refl
lengths (suc zero) h = refl
lengths (suc (suc zero)) h = refl
lengths (suc (suc (suc zero))) h = refl
lengths (suc (suc (suc (suc k)))) h = absurd (omega (arith, h))

below : (f : Field) (w : ℕ) → 0 < f.span → get f w < f.span
unfolding get
below f w h = mod-lt (w / f.unit) h

-- the data bits are the port's length
pub eds8_bits : (control : ℕ) → data_bits (form_of control) ≡ length_of control
unfolding data_bits form_of bits_of length_of
eds8_bits control = lengths (get LENGTH control) (below LENGTH control (lit< tt))

-- so the cut of a character that is written is the base's own
pub eds8_cut : (control c : ℕ) → limited (form_of control) c ≡ cut control c
unfolding limited cut span_of
eds8_cut control c = ap (λ (n : ℕ). c % 2 ^ n) (eds8_bits control)

-- parity unless bit 8 inhibits it
pub eds8_parity : (control : ℕ) → has_parity (form_of control) ≡ not (eqb (get PARITY-INHIBIT control) 1)
unfolding has_parity form_of parity_of pick
eds8_parity control = go (eqb (get PARITY-INHIBIT control) 1) (eqb (get EVEN-PARITY control) 1)
  where
    go : (s t : Bool) → checked (pick s Inhibited (pick t Even Odd)) ≡ not s
    go true t = refl
    go false true = refl
    go false false = refl

-- the ones odd where bit 12 is 0, even where it is 1
pub eds8_sense : (control : ℕ) → eqb (get PARITY-INHIBIT control) 1 ≡ false → sense (form_of control) ≡ 1 - get EVEN-PARITY control
unfolding sense form_of parity_of pick
eds8_sense control h = rw h (senses (get EVEN-PARITY control) (below EVEN-PARITY control (lit< tt)))
  where
    senses : (k : ℕ) → k < 2 → sense_of (pick (eqb k 1) Even Odd) ≡ 1 - k
    senses zero l = refl
    senses (suc zero) l = refl
    senses (suc (suc k)) l = absurd (omega (arith, l))

-- one stop or two
pub eds8_stops : (control : ℕ) → stop_cells (form_of control) ≡ 2 + 2 * get STOP-BAUDS control
unfolding stop_cells form_of stops_of pick
eds8_stops control = stops (get STOP-BAUDS control) (below STOP-BAUDS control (lit< tt))
  where
    stops : (k : ℕ) → k < 2 → halves_of (pick (eqb k 1) Two One) ≡ 2 + 2 * k
    stops zero l = refl
    stops (suc zero) l = refl
    stops (suc (suc k)) l = absurd (omega (arith, l))
