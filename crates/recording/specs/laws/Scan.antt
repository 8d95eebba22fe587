-- Reading on, field by field.
--   from_there           the bytes from an offset on
--   scan_on, scan-end    one field more, and no more
--   one_good, one_bad    a good field, and one at fault
--   scan_count           no more fields than were asked for
--   scan_clean           nothing is at fault before where nothing is
--   Step, scan_step      the three things that may stand at an offset
--   check_fault, check_full, check_all   the three answers
--   at_good, at_bad, field_here, fields_behind, past_end, good_within   the event at an offset
-- Not here: what is read, in laws/Reads.
-- Assumes nothing.
use Rattle.std.specs.Prelude.{◌≡◌, ℕ, zero, suc, ◌+◌, ◌-◌, ◌<◌, ◌≤◌, Bool, true, false, ◌&&◌, List, length, take, drop, ◌==◌, ◌≢◌, nat_lt}
use Rattle.std.proofs.Math.Path.{refl, subst}
use Rattle.std.proofs.Common.{sym, ◌∙◌, ap, le_refl, length-drop, take_all, eqb-true, eq-eqb, ne_eqb, ltb-true, ltb-false, lt-ltb, le-ltb, arith}
use Rattle.std.proofs.Math.Bool.{and-false}
use Rattle.std.proofs.lemmas.Bool.{eqb-false}
use Rattle.ground.specs.Choose.{pick}
use Rattle.ground.specs.laws.Rows.{pick_true, pick-false}
use Rattle.recording.specs.declared.reading.Done.{Done}
use Rattle.recording.specs.Scan.{One, done, begun, going, scan_one, scanned, checked, one_at}
use Rattle.recording.specs.Layout.{field_length}
use Rattle.recording.specs.Event.{NO-ROOM, no_event}
use Rattle.recording.specs.Field.{tag_in, event_in, field_code}
use Rattle.recording.specs.laws.Codes.{code_good}

module _ (bytes : List ℕ) where
  -- the part of the bytes from an offset to their end
  pub from_there : (at : ℕ) → take (length bytes - at) (drop at bytes) ≡ drop at bytes
  from_there at = take_all (length bytes - at) (drop at bytes) (omega (arith, length-drop at bytes))

  pub scan_on : (n : ℕ) (d : Done) → going bytes d ≡ true → scanned (suc n) bytes d ≡ scanned n bytes (scan_one bytes d)
  unfolding scanned
  scan_on n d e = pick_true (going bytes d) (scanned n bytes (scan_one bytes d)) d e

  pub scan-end : (n : ℕ) (d : Done) → going bytes d ≡ false → scanned n bytes d ≡ d
  unfolding scanned
  scan-end zero d e = refl
  scan-end (suc n) d e = pick-false (going bytes d) (scanned n bytes (scan_one bytes d)) d e

  -- one field: good, or at fault
  abbrev pub onward : Done → Done
  onward d = done 0 (d.at + field_length (tag_in (drop d.at bytes))) (d.count + 1)

  abbrev stopped : Done → Done
  stopped d = done (field_code (drop d.at bytes)) d.at d.count

  pub one_good : (d : Done) → field_code (drop d.at bytes) ≡ 0 → scan_one bytes d ≡ onward d
  unfolding scan_one
  one_good d e = pick_true (field_code (drop d.at bytes) == 0) (onward d) (stopped d) (eq-eqb (field_code (drop d.at bytes)) 0 e)

  pub one_bad : (d : Done) → (field_code (drop d.at bytes) ≢ 0) → scan_one bytes d ≡ stopped d
  unfolding scan_one
  one_bad d e = pick-false (field_code (drop d.at bytes) == 0) (onward d) (stopped d) (ne_eqb (field_code (drop d.at bytes)) 0 e)

  pub one_count : (d : Done) → (scan_one bytes d).count ≤ d.count + 1
  one_count d = go (field_code (drop d.at bytes) == 0) refl
    where
      go : (t : Bool) → (field_code (drop d.at bytes) == 0) ≡ t → (scan_one bytes d).count ≤ d.count + 1
      go true e = subst (λ (r : Done). r.count ≤ d.count + 1) (sym (one_good d (eqb-true (field_code (drop d.at bytes)) 0 e))) (le_refl (d.count + 1))
      go false e = subst (λ (r : Done). r.count ≤ d.count + 1) (sym (one_bad d (eqb-false (field_code (drop d.at bytes)) 0 e))) (omega arith)

  -- no more fields than were asked for
  pub scan_count : (n : ℕ) (d : Done) → (scanned n bytes d).count ≤ d.count + n
  unfolding scanned
  scan_count zero d = omega arith
  scan_count (suc n) d = go (going bytes d) refl (scan_count n (scan_one bytes d))
    where
      go : (t : Bool) → going bytes d ≡ t → (scanned n bytes (scan_one bytes d)).count ≤ (scan_one bytes d).count + n → (pick (going bytes d) (scanned n bytes (scan_one bytes d)) d).count ≤ d.count + suc n
      go true e h = subst (λ (r : Done). r.count ≤ d.count + suc n) (sym (pick_true (going bytes d) (scanned n bytes (scan_one bytes d)) d e)) (omega (arith, h, one_count d))
      go false e h = subst (λ (r : Done). r.count ≤ d.count + suc n) (sym (pick-false (going bytes d) (scanned n bytes (scan_one bytes d)) d e)) (omega arith)

  -- ---- what becomes of reading on

  -- reading goes on where bytes are left, and not at their end
  pub goes : (at k : ℕ) → at < length bytes → going bytes (done 0 at k) ≡ true
  goes at k h = lt-ltb at (length bytes) h

  pub stops : (at k : ℕ) → length bytes ≤ at → going bytes (done 0 at k) ≡ false
  stops at k h = le-ltb at (length bytes) h

  -- the bytes end here; a good field stands here; one at fault does
  pub data Step (n at k : ℕ) : Type 0 where
    ended : length bytes ≤ at → scanned (suc n) bytes (done 0 at k) ≡ done 0 at k → Step n at k
    good : field_code (drop at bytes) ≡ 0 → scanned (suc n) bytes (done 0 at k) ≡ scanned n bytes (onward (done 0 at k)) → Step n at k
    bad : (field_code (drop at bytes) ≢ 0) → scanned (suc n) bytes (done 0 at k) ≡ done (field_code (drop at bytes)) at k → Step n at k

  pub scan_step : (n at k : ℕ) → Step n at k
  scan_step n at k = go (nat_lt at (length bytes)) refl (field_code (drop at bytes) == 0) refl
    where
      go : (t : Bool) → nat_lt at (length bytes) ≡ t → (u : Bool) → (field_code (drop at bytes) == 0) ≡ u → Step n at k
      go false t u v = let h = ltb-false at (length bytes) t in ended h (scan-end (suc n) (done 0 at k) (stops at k h))
      go true t true v =
          let e = eqb-true (field_code (drop at bytes)) 0 v in
          good e (scan_on n (done 0 at k) (goes at k (ltb-true at (length bytes) t)) ∙ ap (λ (r : Done). scanned n bytes r) (one_good (done 0 at k) e))
      go true t false v =
          let e = eqb-false (field_code (drop at bytes)) 0 v in
          bad e (scan_on n (done 0 at k) (goes at k (ltb-true at (length bytes) t)) ∙ ap (λ (r : Done). scanned n bytes r) (one_bad (done 0 at k) e)
          ∙ scan-end n (stopped (done 0 at k)) (ap (λ (b : Bool). b && nat_lt at (length bytes)) v))

  -- where nothing is at fault up to the end, nothing is in the first so many fields
  pub scan_clean : (n m : ℕ) (d : Done) → d.code ≡ 0 → length bytes ≤ d.at + n → (scanned n bytes d).code ≡ 0 → (scanned m bytes d).code ≡ 0
  unfolding scanned
  scan_clean n zero d z h e = z
  scan_clean zero (suc m) d z h e =
      ap (λ (r : Done). r.code) (scan-end (suc m) d (ap (λ (t : Bool). (d.code == 0) && t) (le-ltb d.at (length bytes) (omega (arith, h))) ∙ and-false (d.code == 0))) ∙ z
  scan_clean (suc n) (suc m) d z h e = go (going bytes d) refl (field_code (drop d.at bytes) == 0) refl (scan_clean n m (onward d) refl)
    where
      go : (t : Bool) → going bytes d ≡ t → (u : Bool) → (field_code (drop d.at bytes) == 0) ≡ u → (length bytes ≤ (onward d).at + n → (scanned n bytes (onward d)).code ≡ 0 → (scanned m bytes (onward d)).code ≡ 0) → (scanned (suc m) bytes d).code ≡ 0
      go false t u v more = ap (λ (r : Done). r.code) (scan-end (suc m) d t) ∙ z
      go true t true v more =
          let good = one_good d (eqb-true (field_code (drop d.at bytes)) 0 v) in
          ap (λ (r : Done). r.code) (scan_on m d t ∙ ap (λ (r : Done). scanned m bytes r) good)
          ∙ more (omega (arith, h)) (sym (ap (λ (r : Done). r.code) (scan_on n d t ∙ ap (λ (r : Done). scanned n bytes r) good)) ∙ e)
      go true t false v more =
          let x = eqb-false (field_code (drop d.at bytes)) 0 v in
          let still : scanned n bytes (stopped d) ≡ stopped d = scan-end n (stopped d) (ap (λ (b : Bool). b && nat_lt d.at (length bytes)) v) in
          absurd (x (sym (ap (λ (r : Done). r.code) (scan_on n d t ∙ ap (λ (r : Done). scanned n bytes r) (one_bad d x) ∙ still)) ∙ e))

  -- ---- the answer

  abbrev whole : Done
  whole = scanned (length bytes) bytes begun

  abbrev part : ℕ → Done
  part room = scanned room bytes begun

  abbrev within : ℕ → Done
  within room = pick (nat_lt (part room).at (length bytes)) (done NO-ROOM (part room).at 0) (done 0 0 (part room).count)

  abbrev refused : Done
  refused = done whole.code whole.at 0

  pub check_fault : (room : ℕ) → (whole.code ≢ 0) → checked bytes room ≡ refused
  unfolding checked
  check_fault room e = pick-false (whole.code == 0) (within room) refused (ne_eqb whole.code 0 e)

  unrefused : (room : ℕ) → whole.code ≡ 0 → checked bytes room ≡ within room
  unfolding checked
  unrefused room e = pick_true (whole.code == 0) (within room) refused (eq-eqb whole.code 0 e)

  pub check_full : (room : ℕ) → whole.code ≡ 0 → (part room).at < length bytes → checked bytes room ≡ done NO-ROOM (part room).at 0
  check_full room e h = unrefused room e ∙ pick_true (nat_lt (part room).at (length bytes)) (done NO-ROOM (part room).at 0) (done 0 0 (part room).count) (lt-ltb (part room).at (length bytes) h)

  pub check_all : (room : ℕ) → whole.code ≡ 0 → length bytes ≤ (part room).at → checked bytes room ≡ done 0 0 (part room).count
  check_all room e h = unrefused room e ∙ pick-false (nat_lt (part room).at (length bytes)) (done NO-ROOM (part room).at 0) (done 0 0 (part room).count) (le-ltb (part room).at (length bytes) h)

  -- ---- the event at an offset

  abbrev found : ℕ → One
  found at = record { event = event_in (drop at bytes); next = at + field_length (tag_in (drop at bytes)) }

  abbrev none : ℕ → One
  none at = record { event = no_event; next = at }

  pub at_good : (at : ℕ) → field_code (drop at bytes) ≡ 0 → one_at bytes at ≡ found at
  unfolding one_at
  at_good at e = pick_true (field_code (drop at bytes) == 0) (found at) (none at) (eq-eqb (field_code (drop at bytes)) 0 e)

  pub at_bad : (at : ℕ) → (field_code (drop at bytes) ≢ 0) → one_at bytes at ≡ none at
  unfolding one_at
  at_bad at e = pick-false (field_code (drop at bytes) == 0) (found at) (none at) (ne_eqb (field_code (drop at bytes)) 0 e)

  -- so many fields come, and this is not the last: a good one stands here, and the others behind it
  pub field_here : (n at k m : ℕ) → (scanned (suc n) bytes (done 0 at k)).count ≡ m → k < m → field_code (drop at bytes) ≡ 0
  field_here n at k m e h = go (scan_step n at k)
    where
      go : Step n at k → field_code (drop at bytes) ≡ 0
      go (ended l r) = absurd (omega (arith, h, e, ap (λ (d : Done). d.count) r))
      go (good f r) = f
      go (bad f r) = absurd (omega (arith, h, e, ap (λ (d : Done). d.count) r))

  pub fields_behind : (n at k m : ℕ) → (scanned (suc n) bytes (done 0 at k)).count ≡ m → k < m → (scanned n bytes (done 0 (one_at bytes at).next (k + 1))).count ≡ m
  fields_behind n at k m e h = go (scan_step n at k)
    where
      go : Step n at k → (scanned n bytes (done 0 (one_at bytes at).next (k + 1))).count ≡ m
      go (ended l r) = absurd (omega (arith, h, e, ap (λ (d : Done). d.count) r))
      go (good f r) = ap (λ (o : One). (scanned n bytes (done 0 o.next (k + 1))).count) (at_good at f) ∙ sym (ap (λ (d : Done). d.count) r) ∙ e
      go (bad f r) = absurd (omega (arith, h, e, ap (λ (d : Done). d.count) r))

  -- past the end no field stands
  pub past_end : (at : ℕ) → length bytes ≤ at → field_code (drop at bytes) ≢ 0
  past_end at h e = omega (arith, h, (code_good (drop at bytes) e).headed, length-drop at bytes)

  -- and a good one ends within the bytes
  pub good_within : (at : ℕ) → at ≤ length bytes → field_code (drop at bytes) ≡ 0 → at + field_length (tag_in (drop at bytes)) ≤ length bytes
  good_within at h e = omega (arith, h, (code_good (drop at bytes) e).whole, length-drop at bytes)
