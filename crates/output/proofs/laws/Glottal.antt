-- The glottal stop that is sent (document 01, Output 01; document 02, K5): octal 174, with its top bit or without, out of the buffer of an automatic output.
--   hands            of any automatic output the fetched byte is handed over
--   ordinary         so a byte is that the unit's set calls ordinary, with a special request or without
--   glottal_passes   so the glottal stop is, where the set calls it ordinary: it stops nothing
--   glottal_stops    where the set calls it special and the request is on, it is done with it
-- Here, and not in specs/laws/Glottal, is what rests on other laws of specs/: an edit of a definition counts as refused where nothing in specs/ rests on the
-- law that it breaks.
-- Assumes nothing.
use Rattle.std.specs.Prelude.{◌≡◌, Bool, true, false, ◌||◌, List, ℕ, ◌%◌, eqb}
use Rattle.std.proofs.Common.{◌∙◌}
use Rattle.std.proofs.Math.Path.{ap}
use Rattle.std.proofs.Math.Bool.{and-false, or-true, or-false}
use Rattle.ground.specs.Choose.{bit}
use Rattle.words.specs.Field.{get}
use Rattle.words.specs.Codes.{OUTDONE, SPECIAL-REQUEST}
use Rattle.words.specs.Special.{special_in}
use Rattle.words.specs.laws.Special.{seven_bits}
use Rattle.unit.specs.declared.mux.Port.{Port}
use Rattle.output.specs.Plan.{Plan}
use Rattle.output.specs.Output.{auto_plan, becomes_changed, output_service}
use Rattle.output.specs.laws.Kept.{stepped}
use Rattle.output.specs.laws.Modes.{planned_auto}
use Rattle.output.specs.laws.Rules.{ocw_of, fetched_of}
use Rattle.output.specs.laws.Word.{written_done}
use Rattle.output.specs.laws.Ends.{Sending, last_of, ocw_after}
use Rattle.output.proofs.laws.Ends.{raises}
use Rattle.output.specs.laws.Glottal.{Handed}

module _ (codes : List Bool) (m : List ℕ) (a : ℕ) (q : Port) (sending : Sending (ocw_of m a)) where
  -- of an automatic output the byte that was fetched is handed over, special or not
  pub hands : ((output_service codes m a q).effect.sent ≡ true) × ((output_service codes m a q).effect.byte ≡ fetched_of m a)
  unfolding output_service stepped auto_plan
  hands =
      let plan = planned_auto (ocw_of m a) q (fetched_of m a) (last_of m a) (special_in codes (fetched_of m a)) sending.clear sending.mode in
      (ap (λ (p : Plan). p.sent) plan, ap (λ (p : Plan). p.byte) plan)

  pub ordinary : special_in codes (fetched_of m a) ≡ false → Handed codes m a q
  ordinary s =
      let raised : (output_service codes m a q).effect.raised ≡ (last_of m a || becomes_changed (ocw_of m a) q.devstatus) = raises codes m a q sending ∙ rw (s, and-false (eqb (get SPECIAL-REQUEST (ocw_of m a)) 1), or-false (last_of m a)) in
      record {
        sent = hands.0;
        byte = hands.1;
        interrupt = raised;
        outdone = λ placed. ap (get OUTDONE) (ocw_after codes m a q placed) ∙ written_done (ocw_of m a) q.devstatus _ sending.clear ∙ ap bit raised;
      }

  -- the glottal stop, with a special request or without
  pub glottal_passes : special_in codes 0o174 ≡ false → fetched_of m a % 128 ≡ 0o174 → Handed codes m a q
  glottal_passes s e = ordinary (seven_bits codes (fetched_of m a) 0o174 e ∙ s)

  pub glottal_stops : special_in codes 0o174 ≡ true → fetched_of m a % 128 ≡ 0o174 → get SPECIAL-REQUEST (ocw_of m a) ≡ 1 → (output_service codes m a q).effect.raised ≡ true
  glottal_stops s e on = raises codes m a q sending ∙ rw (seven_bits codes (fetched_of m a) 0o174 e ∙ s, on, or-true (last_of m a))
