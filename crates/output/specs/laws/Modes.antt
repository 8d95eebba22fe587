-- The plan of each output mode (document 01, Output; 001, 4.2 bits 1 and 2), by the mode's own name.
--   planned_none .. planned_single   with OUTDONE clear; mode 11 is the last branch of the plan, and here it has its name
-- Not here: the codes of the modes, in words, laws/Codes; what the service writes, in Output itself.
-- Assumes nothing.
use Rattle.std.specs.Prelude.{◌≡◌, Bool, ℕ}
use Rattle.ground.specs.Choose.{pick}
use Rattle.words.specs.Field.{get}
use Rattle.words.specs.Codes.{OUTDONE, OUTMO, out_none, out_auto, out_control, out_single}
use Rattle.unit.specs.declared.mux.Port.{Port}
use Rattle.output.specs.Output.{out_done, idle_plan, auto_plan, control_plan, single_plan, output_plan}

module _ (ocw : ℕ) (q : Port) (fetched : ℕ) (last special : Bool) (clear : get OUTDONE ocw ≡ 0) where
  -- 00: nothing
  pub planned_none : get OUTMO ocw ≡ out_none → output_plan ocw q fetched last special ≡ idle_plan q
  unfolding output_plan out_done pick
  planned_none e = rw (clear, e)

  -- 01: automatic
  pub planned_auto : get OUTMO ocw ≡ out_auto → output_plan ocw q fetched last special ≡ auto_plan ocw q fetched last special
  unfolding output_plan out_done pick
  planned_auto e = rw (clear, e)

  -- 10: port control
  pub planned_control : get OUTMO ocw ≡ out_control → output_plan ocw q fetched last special ≡ control_plan ocw
  unfolding output_plan out_done pick
  planned_control e = rw (clear, e)

  -- 11: single
  pub planned_single : get OUTMO ocw ≡ out_single → output_plan ocw q fetched last special ≡ single_plan ocw q
  unfolding output_plan out_done pick
  planned_single e = rw (clear, e)
