-- One event of a pass.
--   puts_on, checks_on   which of the two it is
--   put_goes, put_stays  an event that is put, and one that is not
--   put_same, pass-same  the bytes lent are as many as before
--   sub_leb              a sum within a bound, with the difference in its place
-- Not here: whole passes, in laws/Passes.
-- Assumes nothing.
use Rattle.std.specs.Prelude.{◌≡◌, ℕ, ◌+◌, ◌-◌, ◌≤◌, Bool, true, false, ◌&&◌, length, ◌==◌, nat_le, refl}
use Rattle.std.proofs.Common.{sym, ◌∙◌, ap, arith, leb-true, leb-false, le-leb}
use Rattle.std.proofs.lemmas.Bool.{lt-leb}
use Rattle.ground.specs.laws.Rows.{pick_true, pick-false, and-true}
use Rattle.recording.specs.declared.event.Event.{Event}
use Rattle.recording.specs.declared.pass.Pass.{Pass}
use Rattle.recording.specs.Pass.{Kept, kept, checked_on, may_put, put_on, passed}
use Rattle.recording.specs.Layout.{field_length}
use Rattle.recording.specs.Event.{event_code}
use Rattle.recording.specs.Field.{field, pasted}
use Rattle.recording.specs.laws.Put.{pasted_length}
use Rattle.recording.specs.laws.Layout.{field_length_lem}

pub sub_leb : (a n r : ℕ) → n ≤ r → nat_le a (r - n) ≡ nat_le (a + n) r
sub_leb a n r h = go (nat_le (a + n) r) refl
  where
    go : (t : Bool) → nat_le (a + n) r ≡ t → nat_le a (r - n) ≡ nat_le (a + n) r
    go true e = le-leb a (r - n) (omega (arith, h, leb-true (a + n) r e)) ∙ sym e
    go false e = lt-leb a (r - n) (omega (arith, h, leb-false (a + n) r e)) ∙ sym e

module _ (k : Kept Pass) (e : Event) where
  pub puts_on : k.state.puts ≡ true → passed k e ≡ put_on k e
  unfolding passed
  puts_on h = pick_true k.state.puts (put_on k e) (kept (checked_on k.state e) k.lent) h

  pub checks_on : k.state.puts ≡ false → passed k e ≡ kept (checked_on k.state e) k.lent
  unfolding passed
  checks_on h = pick-false k.state.puts (put_on k e) (kept (checked_on k.state e) k.lent) h

  -- the state after an event that is put
  abbrev pub moved : Pass
  moved = record { puts = k.state.puts; code = k.state.code; found = k.state.found; at = k.state.at + field_length e.tag; room = k.state.room }

  pub put_goes : may_put k.state (length k.lent) e ≡ true → put_on k e ≡ kept moved (pasted k.state.at (field e) k.lent)
  unfolding put_on
  put_goes h = pick_true (may_put k.state (length k.lent) e) (kept moved (pasted k.state.at (field e) k.lent)) k h

  pub put_stays : may_put k.state (length k.lent) e ≡ false → put_on k e ≡ k
  unfolding put_on
  put_stays h = pick-false (may_put k.state (length k.lent) e) (kept moved (pasted k.state.at (field e) k.lent)) k h

  -- one that is put has room
  pub put_room : may_put k.state (length k.lent) e ≡ true → k.state.at + field_length e.tag ≤ length k.lent
  put_room h = leb-true (k.state.at + field_length e.tag) (length k.lent) (and-true (k.state.code == 0 && event_code e == 0) (nat_le (k.state.at + field_length e.tag) (length k.lent)) h).1

  pub pasted_same : k.state.at + field_length e.tag ≤ length k.lent → length (pasted k.state.at (field e) k.lent) ≡ length k.lent
  pasted_same h = pasted_length k.state.at (field e) k.lent (omega (arith, h, field_length_lem e))

  pub put_same : length (put_on k e).lent ≡ length k.lent
  put_same = go (may_put k.state (length k.lent) e) refl
    where
      go : (t : Bool) → may_put k.state (length k.lent) e ≡ t → length (put_on k e).lent ≡ length k.lent
      go true h = ap (λ (r : Kept Pass). length r.lent) (put_goes h) ∙ pasted_same (put_room h)
      go false h = ap (λ (r : Kept Pass). length r.lent) (put_stays h)
