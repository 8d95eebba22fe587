-- What the host reads of OCW after it was written (document 01, Output): of the fields by which the next service goes on.
--   status_above                 the status bits change no field above them
--   written_done, written_set    OUTDONE: whether the service is done, where it was clear; set, where it was set
--   written_mode                 OUTMO: as it was read
-- Not here: the bits 4 to 7, in Output itself; that the host's memory then has the word, in Ends.
-- Assumes nothing.
use Rattle.std.specs.Prelude.{◌≡◌, Bool, ℕ, ◌*◌, ◌<◌}
use Rattle.std.proofs.Common.{◌∙◌, arith, lit<}
use Rattle.std.proofs.Math.Path.{refl}
use Rattle.std.proofs.Math.Bool.{true, false}
use Rattle.ground.specs.Choose.{pick, bit}
use Rattle.ground.specs.laws.Rows.{bit_below}
use Rattle.words.specs.declared.field.Field.{Field}
use Rattle.words.specs.Field.{get, put}
use Rattle.words.specs.laws.Field.{whole, get_below, get-put, get_put_above, get_put_below}
use Rattle.words.specs.Codes.{OUTDONE, OUTMO, DEVICE-STATUS, PREVIOUS-STATUS, UNUSED, STATUS-CHANGED}
use Rattle.output.specs.Output.{out_done, differs, status_bits, written_ocw}

-- a field above bit 4 is as it was read: the status bits stand below it
status_above : (g : Field) (k ocw : ℕ) (line : Bool) → g.unit ≡ DEVICE-STATUS.unit * DEVICE-STATUS.span * k → get g (status_bits ocw line) ≡ get g ocw
unfolding status_bits pick
status_above g k ocw line e =
    get_put_above STATUS-CHANGED g (8 * k) _ _ (omega (arith, e)) (whole STATUS-CHANGED tt tt refl) (changed (differs ocw line))
    ∙ get_put_above PREVIOUS-STATUS g (2 * k) _ _ (omega (arith, e)) (whole PREVIOUS-STATUS tt tt refl) (get_below DEVICE-STATUS ocw (whole DEVICE-STATUS tt tt refl))
    ∙ get_put_above DEVICE-STATUS g k (bit line) ocw e (whole DEVICE-STATUS tt tt refl) (bit_below line)
  where
    changed : (t : Bool) → pick t 1 (get STATUS-CHANGED ocw) < 2
    changed true = lit< tt
    changed false = get_below STATUS-CHANGED ocw (whole STATUS-CHANGED tt tt refl)

module _ (ocw : ℕ) (line done : Bool) where
  pub written_done : get OUTDONE ocw ≡ 0 → get OUTDONE (written_ocw ocw line done) ≡ bit done
  unfolding written_ocw out_done pick
  written_done e = rw e (get-put OUTDONE (bit done) _ (whole OUTDONE tt tt refl) (bit_below done))

  pub written_set : get OUTDONE ocw ≡ 1 → get OUTDONE (written_ocw ocw line done) ≡ 1
  unfolding written_ocw out_done pick
  written_set e = rw e (status_above OUTDONE 8 ocw line refl ∙ e)

  pub written_mode : get OUTMO (written_ocw ocw line done) ≡ get OUTMO ocw
  unfolding written_ocw pick
  written_mode = by (out_done ocw)
    where
      by : (t : Bool) → get OUTMO (pick t (status_bits ocw line) (put OUTDONE (bit done) (put UNUSED 0 (status_bits ocw line)))) ≡ get OUTMO ocw
      by true = status_above OUTMO 2 ocw line refl
      by false =
          get_put_below OUTDONE OUTMO 1 (bit done) _ refl (whole OUTMO tt tt refl)
          ∙ get_put_above UNUSED OUTMO 8 0 _ refl (whole UNUSED tt tt refl) (lit< tt)
          ∙ status_above OUTMO 2 ocw line refl
