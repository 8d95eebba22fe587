-- The glottal stop through the door (document 01, one inspection, and Input 4, 5 and 6; document 02, K5).
--   glottal_call    whatever outcome of an inspection meets the door's contract, if the unit's set calls the glottal stop special or it has an error: it is
--                   delivered, and the list is as it was
--   glottal_sweep   and of a sweep: it makes that one inspection and stops
--   glottal_keeps   if the set calls it ordinary, and it has no error: it is kept with its word
-- The error code is a parameter: none where the character has no error, overload where it replaced a held one (`marked_code` of input).
-- Not here: what is delivered, in laws/Glottal of scan and sweep; the door's contract itself, in specs/Door.
-- Assumes nothing.
use Rattle.std.specs.Prelude.{◌≡◌, List, false, ◌≢◌, ℕ, suc, ◌+◌, ◌/◌}
use Rattle.std.proofs.Math.Path.{ap, subst}
use Rattle.std.proofs.Common.{sym}
use Rattle.words.specs.Codes.{at_icw, flag_none}
use Rattle.words.specs.Special.{special_in}
use Rattle.unit.specs.declared.mux.Setting.{Setting}
use Rattle.unit.specs.declared.mux.Mux.{Mux}
use Rattle.unit.specs.Reply.{Reply}
use Rattle.unit.specs.Record.{block_at}
use Rattle.unit.specs.Reply.{world, Looked, Outcome}
use Rattle.unit.specs.Refusals.{refusal, of_sweep}
use Rattle.input.specs.laws.Kept.{next_of}
use Rattle.input.specs.laws.Glottal.{Apart}
use Rattle.scan.specs.laws.Glottal.{Waits, Delivered, Typed}
use Rattle.scan.proofs.laws.Glottal.{glottal_seen, glottal_typed}
use Rattle.sweep.specs.laws.Glottal.{Swept}
use Rattle.sweep.proofs.laws.Glottal.{glottal_swept}
use Rattle.calls.specs.declared.call.Act.TheVariants.{Inspect}
use Rattle.calls.specs.declared.call.What.TheVariants.{Do, Sweep}
use Rattle.calls.specs.Calls.{performed, step_of}
use Rattle.door.specs.Door.{lent, Meets}

-- the reply, the lent record and the memory, as an inspection leaves them
abbrev looks : Outcome → Looked
looks o = record { reply = o.reply; world = o.world }

-- a call comes with a setting beside what is asked, of which neither takes notice
module _ (u v : Mux) (m n xs ys : List ℕ) (s : Setting) (r : Reply) (p code : ℕ) (waits : Waits u m p code) where
  -- an inspection
  pub glottal_call : Apart u.setting.special code → Meets (world u m) xs (record { what = Do Inspect; setting = s }) r v n ys → Delivered u m p code (record { reply = r; world = world v n }) × (ys ≡ xs)
  unfolding step_of performed
  glottal_call a e =
      (subst (λ (o : Outcome). Delivered u m p code (looks o)) (sym e) (glottal_seen u m p code a waits), ap (λ (o : Outcome). o.list) e)

  -- a sweep
  pub glottal_sweep : (k : ℕ) → Apart u.setting.special code → refusal (of_sweep u m (suc k) xs) ≡ 0 → Meets (world u m) xs (record { what = Sweep (suc k); setting = s }) r v n ys → Swept u m p code xs (lent r v n ys)
  unfolding step_of
  glottal_sweep k a z e = subst (Swept u m p code xs) (sym e) (glottal_swept u m k xs p code a waits z)

-- an inspection of a unit whose set calls it ordinary
pub glottal_keeps : (u v : Mux) (m n xs ys : List ℕ) (s : Setting) (r : Reply) (p : ℕ) → Waits u m p flag_none → special_in u.setting.special 0o174 ≡ false → next_of m (block_at u.setting p) / 2 ≢ block_at u.setting p + at_icw → Meets (world u m) xs (record { what = Do Inspect; setting = s }) r v n ys → Typed u m p (record { reply = r; world = world v n }) × (ys ≡ xs)
unfolding step_of performed
glottal_keeps u v m n xs ys s r p waits o k e =
    (subst (λ (q : Outcome). Typed u m p (looks q)) (sym e) (glottal_typed u m p o k waits), ap (λ (q : Outcome). q.list) e)
