-- A buffer of automatic input ends (document 02, K2).
--   quiet, next_below, steps   a character that raises no interrupt is stored and not done; if its byte is beside, ICW is as read, IBP one on with no
--   serves, input_ends         so after max(1, LIB − IBP) services INDONE is set, whatever becomes of every other word meanwhile
--   first_ends, from_top       a character is done where LIB is at most IBP + 1: so after 65535; where its byte then is
-- Here, and not in specs/laws/Ends, is what rests on other laws of specs/: an edit of a definition counts as refused where nothing in specs/ rests on the
-- law that it breaks.
-- Assumes nothing.
use Rattle.std.specs.Prelude.{◌≡◌, Bool, List, [], ◌∷◌, ◌≢◌, ◌⊎◌, ℕ, ◌+◌, ◌<◌, ◌≤◌, length, get_or}
use Rattle.std.proofs.Common.{◌∙◌, inl, inr, arith, lit≤}
use Rattle.std.proofs.Math.Path.{ap, refl, sym}
use Rattle.std.proofs.Math.Bool.{true, false}
use Rattle.std.proofs.lemmas.Bool.{false≢true}
use Rattle.ground.specs.Choose.{pick}
use Rattle.ground.specs.Machine.{run}
use Rattle.ground.specs.laws.Rows.{pick_true, pick-false, or-false}
use Rattle.words.specs.Field.{get}
use Rattle.words.specs.Codes.{at_lib, LEFT, stored_byte}
use Rattle.words.specs.laws.Codes.{stored_fits}
use Rattle.words.specs.laws.Pointer.{at_end_iff, goes_on}
use Rattle.words.specs.laws.Buffer.{Buffer, room, Steps, Serves, Follow, left, ends}
use Rattle.words.specs.Byte.{half_at, byte_at}
use Rattle.unit.specs.declared.mux.Port.{Port}
use Rattle.unit.specs.laws.Sound.{Placed}
use Rattle.input.specs.Plan.{Plan}
use Rattle.input.specs.Input.{ascii, done_plan, stored_plan, input_service}
use Rattle.input.specs.laws.Kept.{icw_of, last_of, next_of, after, kept_word}
use Rattle.input.specs.laws.Automatic.{Filling, apart, busy_of, done_of, reported_plan, buffered_plan, automatic}
use Rattle.input.proofs.laws.Automatic.{stored, raised_done}
use Rattle.input.proofs.laws.Glottal.{replaced}
use Rattle.input.specs.laws.Ends.{buffer_of, Beside, Visit, found, leaves, Done, Open, short, short_open}

-- ---- one service

module _ (codes : List Bool) (m : List ℕ) (a : ℕ) (q : Port) (filling : Filling (icw_of m a)) where
  -- a character that raises no interrupt goes to the buffer, and is not done
  pub quiet : (input_service codes m a q).effect.raised ≡ false → (apart codes m a q ≡ false) × (done_of m a q ≡ false)
  unfolding input_service done_plan stored_plan
  quiet r = by (apart codes m a q) refl
    where
      by : (t : Bool) → apart codes m a q ≡ t → (apart codes m a q ≡ false) × (done_of m a q ≡ false)
      by true e = absurd (false≢true (sym r ∙ ap (λ (p : Plan). p.raised) (automatic codes m a q filling ∙ pick_true (apart codes m a q) (reported_plan m a q) (buffered_plan m a q) e)))
      by false e = (e, sym (ap (λ (p : Plan). p.raised) (automatic codes m a q filling ∙ pick-false (apart codes m a q) (reported_plan m a q) (buffered_plan m a q) e)) ∙ r)

  -- so the end is not reached: the next place is one on, below the end
  pub next_below : (buffer_of m a).end < 65536 → (input_service codes m a q).effect.raised ≡ false → (next_of m a ≡ (buffer_of m a).pointer + 1) × ((buffer_of m a).pointer + 1 < (buffer_of m a).end)
  next_below word r = goes_on (buffer_of m a).pointer (buffer_of m a).end word (or-false (last_of m a) (busy_of m a q) (quiet r).1).0

  -- a stored character that is not done, its byte on none of the port's three words
  pub steps : Placed m a → q.ch.byte < 256 → (buffer_of m a).end < 65536 → (input_service codes m a q).effect.raised ≡ false → Beside a (next_of m a) → Steps (buffer_of m a) (buffer_of (after codes m a q) a) × (icw_of (after codes m a q) a ≡ icw_of m a)
  steps placed byte word r beside =
      let next = next_below word r in
      let s = stored codes m a q placed filling (stored_fits (ascii (icw_of m a)) q.ch.byte byte) (quiet r).0 beside.icw in (
        record {
          below = next.1;
          pointer = s.pointer beside.ibp ∙ next.0;
          end = kept_word codes m a q (a + at_lib) (λ e. omega (arith, e)) (λ e. omega (arith, e)) (λ e. beside.lib (sym e));
        },
        s.same_icw (quiet r).1,
      )

-- ---- services one after the other

-- an open buffer is then done, or steps on and stays open; a buffer that is done stays done
pub serves : (a : ℕ) (v : Visit a) → Serves (Open a) Done (found a v) (leaves a v)
serves a v =
    record { stays = λ d. (replaced v.codes v.memory a v.port v.placed v.byte d).still_done; goes = λ o. by o (input_service v.codes v.memory a v.port).effect.raised refl }
  where
    by : Open a (found a v) → (t : Bool) → (input_service v.codes v.memory a v.port).effect.raised ≡ t → Done (leaves a v) ⊎ (Open a (leaves a v) × Steps (found a v) (leaves a v))
    by o true r = inl (raised_done v.codes v.memory a v.port v.placed o.filling v.byte r)
    by o false r =
        let next = next_below v.codes v.memory a v.port o.filling o.word r in
        let beside : Beside a (next_of v.memory a) = rw next.0 (o.beside ((found a v).pointer + 1) (omega arith) next.1) in
        let s = steps v.codes v.memory a v.port o.filling v.placed v.byte o.word r beside in
        inr (
          record {
            filling = rw s.1 o.filling;
            word = rw s.0.end o.word;
            beside = λ x h k. o.beside x (omega (arith, h, s.0.pointer)) (omega (arith, k, s.0.end));
          },
          s.0,
        )

-- a buffer ends: with ICW, IBP and LIB as the port's own input services left them, as many of these as max(1, LIB − IBP), or more, set INDONE.
-- Every other word may have changed between them
pub input_ends : (a : ℕ) (b : Buffer) (vs : List (Visit a)) → Open a b → Follow (found a) (leaves a) b vs → room b ≤ length vs → Done (left (found a) (leaves a) b vs)
input_ends a b vs o f h = ends (found a) (leaves a) (Open a) Done (serves a) b vs f o h

-- ---- a buffer that is set up too short

module _ (codes : List Bool) (m : List ℕ) (a : ℕ) (q : Port) (filling : Filling (icw_of m a)) where
  -- where LIB is at most IBP + 1, so where it is 0, the first character is done
  pub first_ends : (buffer_of m a).end ≤ (buffer_of m a).pointer + 1 → (input_service codes m a q).effect.raised ≡ true
  first_ends h = by (input_service codes m a q).effect.raised refl
    where
      by : (t : Bool) → (input_service codes m a q).effect.raised ≡ t → (input_service codes m a q).effect.raised ≡ true
      by true r = r
      by false r = absurd (false≢true (sym (or-false (last_of m a) (busy_of m a q) (quiet codes m a q filling r).1).0 ∙ (at_end_iff (buffer_of m a).pointer (buffer_of m a).end).1 h))

  -- after IBP 65535 it is done whatever LIB is; if it is stored, its byte is in the left half of word 0, unless that word is ICW
  pub from_top : (buffer_of m a).pointer ≡ 65535 → (buffer_of m a).end < 65536 → ((input_service codes m a q).effect.raised ≡ true) × (Placed m a → q.ch.byte < 256 → apart codes m a q ≡ false → a ≢ 0 → get LEFT (get_or (after codes m a q) 0 0) ≡ stored_byte (ascii (icw_of m a)) q.ch.byte)
  unfolding byte_at half_at pick
  from_top top word =
      let next : next_of m a ≡ 0 = rw top in (
        first_ends (omega (arith, top, word)),
        λ placed byte s n. ap (λ (x : ℕ). byte_at (after codes m a q) x) (sym next) ∙ (stored codes m a q placed filling (stored_fits (ascii (icw_of m a)) q.ch.byte byte) s (λ e. n (omega (arith, e, next)))).stored,
      )

-- ---- the rule as it was

pub short_ends : Done (leaves 64 short)
unfolding run
short_ends = input_ends 64 (found 64 short) (short ∷ []) short_open (refl, tt) (lit≤ tt)
