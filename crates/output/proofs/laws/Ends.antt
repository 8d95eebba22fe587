-- A buffer of automatic output ends (document 02, K2).
--   raises, obp_after          the interrupt of a service, and OBP after it
--   next_below, steps          a byte that raises no interrupt: OBP one on with no jump to 0, and LOB − OBP one less
--   serves, output_ends        so after max(1, LOB − OBP) output services OUTDONE is set, whatever becomes of every other word meanwhile
--   first_ends, from_top       a byte is done where LOB is at most OBP + 1: so after 65535, where it is the left half of word 0
--   same_service               by the rule as it was: the same where OBP + 1 is below LOB or equal to it
-- Here, and not in specs/laws/Ends, is what rests on other laws of specs/: an edit of a definition counts as refused where nothing in specs/ rests on the
-- law that it breaks.
-- Assumes nothing.
use Rattle.std.specs.Prelude.{◌≡◌, refl, Bool, true, false, List, [], ◌∷◌, ◌⊎◌, ℕ, ◌+◌, ◌<◌, ◌≤◌, length, get_or, ◌&&◌, ◌||◌, eqb}
use Rattle.std.proofs.Common.{◌∙◌, inl, inr, arith, lit≤, sym}
use Rattle.std.proofs.Math.Path.{ap}
use Rattle.ground.specs.Choose.{pick, bit}
use Rattle.ground.specs.Machine.{run}
use Rattle.words.specs.Field.{get}
use Rattle.words.specs.Codes.{at_obp, OUTDONE, OUTMO, LEFT, at_ocw, at_lob, SPECIAL-REQUEST}
use Rattle.words.specs.laws.Pointer.{at_end_iff, at_end_was, as_before, goes_on}
use Rattle.words.specs.laws.Buffer.{Buffer, room, Steps, Serves, Follow, left, ends}
use Rattle.words.specs.Byte.{half_at, byte_at}
use Rattle.words.specs.laws.Byte.{other_word, read_word}
use Rattle.words.specs.Special.{special_in}
use Rattle.unit.specs.declared.mux.Port.{Port}
use Rattle.output.specs.Plan.{Plan}
use Rattle.output.specs.Output.{auto_plan, written_ocw, output_service, out_done, is_auto, becomes_changed}
use Rattle.output.specs.laws.Kept.{stepped, after, kept_word}
use Rattle.output.specs.laws.Modes.{planned_auto}
use Rattle.output.specs.laws.Rules.{ocw_of, next_of, fetched_of, output_by, by_the_rules}
use Rattle.output.specs.laws.Word.{written_done, written_set, written_mode}
use Rattle.output.specs.laws.Ends.{buffer_of, Sending, last_of, ocw_after, Visit, found, leaves, Done, Open, short, short_open}
use Rattle.std.proofs.Math.Seq.{get_or-set_other}
use Rattle.ground.specs.laws.Rows.{or-false}
use Rattle.unit.specs.laws.Sound.{Placed}

-- ---- one service

module _ (codes : List Bool) (m : List ℕ) (a : ℕ) (q : Port) (sending : Sending (ocw_of m a)) where
  -- it is done at the end, at a special byte that was asked for, and where Device Status changed
  pub raises : (output_service codes m a q).effect.raised ≡ ((last_of m a || (eqb (get SPECIAL-REQUEST (ocw_of m a)) 1 && special_in codes (fetched_of m a))) || becomes_changed (ocw_of m a) q.devstatus)
  unfolding output_service stepped out_done auto_plan
  raises = rw (planned_auto (ocw_of m a) q (fetched_of m a) (last_of m a) (special_in codes (fetched_of m a)) sending.clear sending.mode, sending.clear)

  -- one that raises no interrupt has not reached the end: the next place is one on, below the end
  pub next_below : (buffer_of m a).end < 65536 → (output_service codes m a q).effect.raised ≡ false → (next_of m a ≡ (buffer_of m a).pointer + 1) × ((buffer_of m a).pointer + 1 < (buffer_of m a).end)
  next_below word r = goes_on (buffer_of m a).pointer (buffer_of m a).end word (or-false _ _ (or-false _ _ (sym raises ∙ r)).0).0

  -- OBP after the service
  pub obp_after : Placed m a → get_or (after codes m a q) (a + at_obp) 0 ≡ next_of m a
  unfolding output_service stepped is_auto out_done
  obp_after h =
      get_or-set_other (stepped m a) (a + at_ocw) (a + at_obp) _ 0 (λ e. omega (arith, e))
      ∙ rw (sending.clear, sending.mode) (read_word m (a + at_obp) (next_of m a) (omega (arith, h.words, h.inside)))

  -- a byte that is not done
  pub steps : Placed m a → (buffer_of m a).end < 65536 → (output_service codes m a q).effect.raised ≡ false → Steps (buffer_of m a) (buffer_of (after codes m a q) a)
  steps placed word r =
      let next = next_below word r in
      record {
        below = next.1;
        pointer = obp_after placed ∙ next.0;
        end = kept_word codes m a q (a + at_lob) (λ e. omega (arith, e)) (λ e. omega (arith, e));
      }

-- ---- services one after the other

-- an open buffer is then done, or steps on and stays open; a buffer that is done stays done
pub serves : (a : ℕ) (v : Visit a) → Serves Open Done (found a v) (leaves a v)
unfolding bit
serves a v =
    record {
      stays = λ d. ap (get OUTDONE) written ∙ written_set ocw v.port.devstatus (output_service v.codes v.memory a v.port).effect.raised d;
      goes = λ o. by o (output_service v.codes v.memory a v.port).effect.raised refl;
    }
  where
    ocw : ℕ
    ocw = (found a v).control

    written : (leaves a v).control ≡ written_ocw ocw v.port.devstatus (output_service v.codes v.memory a v.port).effect.raised
    written = ocw_after v.codes v.memory a v.port v.placed

    done_is : Open (found a v) → get OUTDONE (leaves a v).control ≡ bit (output_service v.codes v.memory a v.port).effect.raised
    done_is o = ap (get OUTDONE) written ∙ written_done ocw v.port.devstatus (output_service v.codes v.memory a v.port).effect.raised o.sending.clear

    by : Open (found a v) → (t : Bool) → (output_service v.codes v.memory a v.port).effect.raised ≡ t → Done (leaves a v) ⊎ (Open (leaves a v) × Steps (found a v) (leaves a v))
    by o true r = inl (done_is o ∙ ap bit r)
    by o false r =
        let s = steps v.codes v.memory a v.port o.sending v.placed o.word r in
        inr (
          record {
            sending = record {
              clear = done_is o ∙ ap bit r;
              mode = ap (get OUTMO) written ∙ written_mode ocw v.port.devstatus (output_service v.codes v.memory a v.port).effect.raised ∙ o.sending.mode;
            };
            word = rw s.end o.word;
          },
          s,
        )

-- a buffer ends: with OCW, OBP and LOB as the port's own output services left them, as many of these as max(1, LOB − OBP), or more, set
-- OUTDONE. Every other word may have changed between them
pub output_ends : (a : ℕ) (b : Buffer) (vs : List (Visit a)) → Open b → Follow (found a) (leaves a) b vs → room b ≤ length vs → Done (left (found a) (leaves a) b vs)
output_ends a b vs o f h = ends (found a) (leaves a) Open Done (serves a) b vs f o h

-- ---- a buffer that is set up too short

module _ (codes : List Bool) (m : List ℕ) (a : ℕ) (q : Port) (sending : Sending (ocw_of m a)) where
  -- where LOB is at most OBP + 1, so where it is 0, the first byte is done
  pub first_ends : (buffer_of m a).end ≤ (buffer_of m a).pointer + 1 → (output_service codes m a q).effect.raised ≡ true
  first_ends h = raises codes m a q sending ∙ rw ((at_end_iff (buffer_of m a).pointer (buffer_of m a).end).1 h)

  -- after OBP 65535 it is done whatever LOB is, and the byte that is handed over is the left half of word 0
  pub from_top : (buffer_of m a).pointer ≡ 65535 → (buffer_of m a).end < 65536 → ((output_service codes m a q).effect.raised ≡ true) × ((output_service codes m a q).effect.sent ≡ true) × ((output_service codes m a q).effect.byte ≡ get LEFT (get_or m 0 0))
  unfolding output_service stepped auto_plan byte_at half_at pick
  from_top top word =
      let next : next_of m a ≡ 0 = rw top in
      let plan = planned_auto (ocw_of m a) q (fetched_of m a) (last_of m a) (special_in codes (fetched_of m a)) sending.clear sending.mode in
      (first_ends (omega (arith, top, word)), ap (λ (p : Plan). p.sent) plan, ap (λ (p : Plan). p.byte) plan ∙ ap (λ (x : ℕ). byte_at (stepped m a) x) next ∙ ap (get LEFT) (other_word _ m (a + at_obp) _ 0 (λ e. omega (arith, e))))

-- ---- the rule as it was

-- where OBP + 1 is below LOB or equal to it, it is the service by the rule before K2
pub same_service : (codes : List Bool) (m : List ℕ) (a : ℕ) (q : Port) → (buffer_of m a).end < 65536 → (buffer_of m a).pointer + 1 ≤ (buffer_of m a).end → output_service codes m a q ≡ output_by at_end_was (special_in codes) m a q
unfolding output_by
same_service codes m a q word h = by_the_rules codes m a q ∙ rw (as_before (buffer_of m a).pointer (buffer_of m a).end word h)

pub short_ends : Done (leaves 64 short)
unfolding run
short_ends = output_ends 64 (found 64 short) (short ∷ []) short_open (refl, tt) (lit≤ tt)
