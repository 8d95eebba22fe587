-- A list of events written: what is refused, and that the two passes come to the call.
--   written_length, written_bound   how many bytes the fields take
--   Fine                 nothing is at fault in any event
--   fault_skip, fault_at, fault_none   the first event at fault, exactly where
--   full_skip, full_at, full_none      the first that has no room, exactly where
--   fault_count, full_count   a refusal counts nothing
--   write_cases          the three answers of the call
--   write_fault, write_full, write_all   which one, exactly when
--   write_refused, write_none   what a refusal leaves
--   Fits, write_accepts  what is accepted
--   code_settled, check_stays, check_room, run_stays   what an event at fault, or any, leaves of it
--   checks_all, told_bad, fault_told, run_fine, full_told   the pass that checks
--   told_answers         what it tells is an answer
--   put_stop, put_all    the pass that puts
--   two_passes           both, one after the other
-- Not here: one event of a pass, in laws/Steps; reading back what is written, in laws/Undo.
-- Assumes nothing.
use Rattle.std.specs.Prelude.{◌≡◌, ℕ, Result, Ok, Err, ◌+◌, ◌*◌, ◌^◌, ◌<◌, ◌≤◌, Bool, true, false, not, ◌&&◌, ◌↔◌, List, [], ◌∷◌, ◌++◌, length, drop, ◌==◌, ◌≢◌, nat_eq, nat_le}
use Rattle.std.proofs.Math.Path.{refl}
use Rattle.std.proofs.Common.{sym, ◌∙◌, ap, subst, append-nil, zero-add, add-zero, lt_of_not-le, arith, length-append, le-leb, eq-eqb, ne_eqb}
use Rattle.std.proofs.Math.Nat.{mod-eq_of_lt}
use Rattle.std.proofs.Math.Decide.{ℕ_discrete, dec_le}
use Rattle.std.proofs.lemmas.Bool.{lt-leb}
use Rattle.ground.specs.Choose.{pick, row, first_of}
use Rattle.ground.specs.Machine.{run}
use Rattle.ground.specs.laws.Machine.{run_keeps}
use Rattle.ground.specs.laws.Rows.{pick_true, pick-false, never}
use Rattle.recording.specs.Layout.{Layout, width_of, known, layout_of, numbers_length, field_length}
use Rattle.recording.specs.declared.event.Event.{Event}
use Rattle.recording.specs.declared.reading.Done.{Done}
use Rattle.recording.specs.declared.fault.Fault.{Fault}
use Rattle.recording.specs.declared.fault.Fault.TheVariants.{UnknownTag, NoRoom, BadValue}
use Rattle.recording.specs.Fault.{code_of}
use Rattle.recording.specs.Scan.{done, Answers}
use Rattle.recording.specs.declared.pass.Pass.{Pass}
use Rattle.recording.specs.Pass.{written, fault, full, Wrote, wrote, write, Kept, kept, first_pass, settled, counted, faulted, checked_on, may_put, passed, checked_all, second_pass, told}
use Rattle.recording.specs.Event.{UNKNOWN-TAG, NO-ROOM, BAD-VALUE, event_fits, event_code}
use Rattle.recording.specs.Field.{field, pasted}
use Rattle.recording.specs.laws.Layout.{size_at_most, data_marked, data_bare, field_length_lem}
use Rattle.recording.specs.laws.Put.{pasted_none, pasted_then}
use Rattle.recording.specs.laws.Views.{number_some}
use Rattle.recording.specs.laws.Steps.{puts_on, checks_on, put_goes, put_stays, pasted_same}

-- what is so of both values is so of the one that is chosen
pick_both : {A : Type 0} (P : A → Type 0) (t : Bool) (a b : A) → P a → P b → P (pick t a b)
unfolding pick
pick_both P true a b x y = x
pick_both P false a b x y = y

-- ---- how many bytes

pub written_length : (e : Event) (es : List Event) → length (written (e ∷ es)) ≡ field_length e.tag + length (written es)
unfolding written
written_length e es = length-append (field e) (written es) ∙ ap (λ (n : ℕ). n + length (written es)) (field_length_lem e)

-- three bytes, four numbers of at most four, and the set
field_at_most : (t : ℕ) → field_length t ≤ 147
field_at_most t = go (layout_of t).set refl
  where
    small : (l : Layout) → numbers_length l ≤ 16
    small l = omega (arith, size_at_most (width_of l.first), size_at_most (width_of l.second), size_at_most (width_of l.third), size_at_most (width_of l.fourth))

    go : (s : Bool) → (layout_of t).set ≡ s → field_length t ≤ 147
    go true m = omega (arith, small (layout_of t), data_marked (layout_of t) m)
    go false m = omega (arith, small (layout_of t), data_bare (layout_of t) m)

pub written_bound : (es : List Event) → length (written es) ≤ length es * 147
unfolding written
written_bound [] = omega arith
written_bound (e ∷ es) = omega (arith, written_length e es, field_at_most e.tag, written_bound es)

-- ---- the first event at fault

-- nothing is at fault in any of them
abbrev pub Fine : List Event → Type 0
Fine [] = Unit {0}
Fine (e ∷ es) = (event_code e ≡ 0) × Fine es

-- where the tag after this event's field would stand
abbrev next : ℕ → Event → ℕ
next at e = at + field_length e.tag

module _ (at : ℕ) (e : Event) (es : List Event) where
  far : next at e + length (written es) ≡ at + length (written (e ∷ es))
  far = omega (arith, written_length e es)

  fault_on : event_code e ≡ 0 → fault at (e ∷ es) ≡ fault (next at e) es
  unfolding fault
  fault_on c = pick_true (event_code e == 0) (fault (next at e) es) (done (event_code e) at 0) (eq-eqb (event_code e) 0 c)

  fault_here : (event_code e ≢ 0) → fault at (e ∷ es) ≡ done (event_code e) at 0
  unfolding fault
  fault_here c = pick-false (event_code e == 0) (fault (next at e) es) (done (event_code e) at 0) (ne_eqb (event_code e) 0 c)

  full_on : (room : ℕ) → next at e ≤ room → full room at (e ∷ es) ≡ full room (next at e) es
  unfolding full
  full_on room h = pick_true (nat_le (next at e) room) (full room (next at e) es) (done NO-ROOM at 0) (le-leb (next at e) room h)

  full_here : (room : ℕ) → room < next at e → full room at (e ∷ es) ≡ done NO-ROOM at 0
  unfolding full
  full_here room h = pick-false (nat_le (next at e) room) (full room (next at e) es) (done NO-ROOM at 0) (lt-leb (next at e) room h)

-- past events at which nothing is
pub fault_skip : (at : ℕ) (before after : List Event) → Fine before → fault at (before ++ after) ≡ fault (at + length (written before)) after
unfolding written
fault_skip at [] after f = ap (λ (n : ℕ). fault n after) (sym (add-zero at))
fault_skip at (e ∷ before) after f =
    fault_on at e (before ++ after) f.0 ∙ fault_skip (next at e) before after f.1 ∙ ap (λ (n : ℕ). fault n after) (far at e before)

pub fault_at : (before : List Event) (e : Event) (after : List Event) → Fine before → (event_code e ≢ 0) → fault 0 (before ++ (e ∷ after)) ≡ done (event_code e) (length (written before)) 0
fault_at before e after f c =
    fault_skip 0 before (e ∷ after) f ∙ ap (λ (n : ℕ). fault n (e ∷ after)) (zero-add (length (written before))) ∙ fault_here (length (written before)) e after c

pub fault_none : (at : ℕ) (es : List Event) → ((fault at es).code ≡ 0) ↔ Fine es
unfolding fault
fault_none at es = (there at es, λ f. ap (λ (xs : List Event). (fault at xs).code) (sym (append-nil es)) ∙ ap (λ (d : Done). d.code) (fault_skip at es [] f))
  where
    there : (n : ℕ) (xs : List Event) → (fault n xs).code ≡ 0 → Fine xs
    there n [] z = tt
    there n (e ∷ xs) z = go (ℕ_discrete (event_code e) 0) (there (next n e) xs)
      where
        go : Dec (event_code e ≡ 0) → ((fault (next n e) xs).code ≡ 0 → Fine xs) → Fine (e ∷ xs)
        go (yes c) more = (c, more (ap (λ (d : Done). d.code) (sym (fault_on n e xs c)) ∙ z))
        go (no c) more = absurd (c (ap (λ (d : Done). d.code) (sym (fault_here n e xs c)) ∙ z))

pub fault_count : (at : ℕ) (es : List Event) → (fault at es).count ≡ 0
unfolding fault
fault_count at [] = refl
fault_count at (e ∷ es) = pick_both (λ (d : Done). d.count ≡ 0) (event_code e == 0) (fault (next at e) es) (done (event_code e) at 0) (fault_count (next at e) es) refl

-- ---- the first that has no room

pub full_skip : (room at : ℕ) (before after : List Event) → at + length (written before) ≤ room → full room at (before ++ after) ≡ full room (at + length (written before)) after
unfolding written
full_skip room at [] after h = ap (λ (n : ℕ). full room n after) (sym (add-zero at))
full_skip room at (e ∷ before) after h =
    full_on at e (before ++ after) room (omega (arith, h, far at e before)) ∙
    full_skip room (next at e) before after (omega (arith, h, far at e before)) ∙
    ap (λ (n : ℕ). full room n after) (far at e before)

pub full_at : (room : ℕ) (before : List Event) (e : Event) (after : List Event) → length (written before) ≤ room → room < length (written before) + field_length e.tag → full room 0 (before ++ (e ∷ after)) ≡ done NO-ROOM (length (written before)) 0
full_at room before e after h l =
    full_skip room 0 before (e ∷ after) (omega (arith, h)) ∙ ap (λ (n : ℕ). full room n (e ∷ after)) (zero-add (length (written before))) ∙ full_here (length (written before)) e after room l

pub full_none : (room at : ℕ) (es : List Event) → at ≤ room → ((full room at es).code ≡ 0) ↔ (at + length (written es) ≤ room)
unfolding full written
full_none room at es h = (there at es h, λ l. ap (λ (xs : List Event). (full room at xs).code) (sym (append-nil es)) ∙ ap (λ (d : Done). d.code) (full_skip room at es [] l))
  where
    there : (n : ℕ) (xs : List Event) → n ≤ room → (full room n xs).code ≡ 0 → n + length (written xs) ≤ room
    there n [] l z = omega (arith, l)
    there n (e ∷ xs) l z = go (dec_le (next n e) room) (there (next n e) xs)
      where
        go : Dec (next n e ≤ room) → (next n e ≤ room → (full room (next n e) xs).code ≡ 0 → next n e + length (written xs) ≤ room) → n + length (written (e ∷ xs)) ≤ room
        go (yes c) more = omega (arith, more c (ap (λ (d : Done). d.code) (sym (full_on n e xs room c)) ∙ z), far n e xs)
        go (no c) more = let no_room : NO-ROOM ≡ 0 = ap (λ (d : Done). d.code) (sym (full_here n e xs room (lt_of_not-le c))) ∙ z in omega (arith, no_room)

pub full_count : (room at : ℕ) (es : List Event) → (full room at es).count ≡ 0
unfolding full
full_count room at [] = refl
full_count room at (e ∷ es) = pick_both (λ (d : Done). d.count ≡ 0) (nat_le (next at e) room) (full room (next at e) es) (done NO-ROOM at 0) (full_count room (next at e) es) refl

-- ---- the call

module _ (es : List Event) (out : List ℕ) where
  abbrev faulty : Wrote
  faulty = wrote (fault 0 es) out

  abbrev too_many : Wrote
  too_many = wrote (full (length out) 0 es) out

  abbrev whole : Wrote
  whole = wrote (done 0 0 (length (written es))) (written es ++ drop (length (written es)) out)

  abbrev sound : Wrote
  sound = pick ((full (length out) 0 es).code == 0) whole too_many

  pub write_fault : ((fault 0 es).code ≢ 0) → write es out ≡ wrote (fault 0 es) out
  unfolding write
  write_fault f = pick-false ((fault 0 es).code == 0) sound faulty (ne_eqb (fault 0 es).code 0 f)

  write_sound : (fault 0 es).code ≡ 0 → write es out ≡ sound
  unfolding write
  write_sound f = pick_true ((fault 0 es).code == 0) sound faulty (eq-eqb (fault 0 es).code 0 f)

  pub write_full : (fault 0 es).code ≡ 0 → ((full (length out) 0 es).code ≢ 0) → write es out ≡ wrote (full (length out) 0 es) out
  write_full f h = write_sound f ∙ pick-false ((full (length out) 0 es).code == 0) whole too_many (ne_eqb (full (length out) 0 es).code 0 h)

  pub write_all : (fault 0 es).code ≡ 0 → (full (length out) 0 es).code ≡ 0 → write es out ≡ wrote (done 0 0 (length (written es))) (written es ++ drop (length (written es)) out)
  write_all f h = write_sound f ∙ pick_true ((full (length out) 0 es).code == 0) whole too_many (eq-eqb (full (length out) 0 es).code 0 h)

  -- what holds of each of the three answers holds of the call
  pub write_cases : (P : Wrote → Type 0) → (((fault 0 es).code ≢ 0) → P faulty) → ((fault 0 es).code ≡ 0 → ((full (length out) 0 es).code ≢ 0) → P too_many) → ((fault 0 es).code ≡ 0 → (full (length out) 0 es).code ≡ 0 → P whole) → P (write es out)
  write_cases P one two three = go (ℕ_discrete (fault 0 es).code 0) (ℕ_discrete (full (length out) 0 es).code 0)
    where
      go : Dec ((fault 0 es).code ≡ 0) → Dec ((full (length out) 0 es).code ≡ 0) → P (write es out)
      go (no f) h = subst P (sym (write_fault f)) (one f)
      go (yes f) (no h) = subst P (sym (write_full f h)) (two f h)
      go (yes f) (yes h) = subst P (sym (write_all f h)) (three f h)

  -- a refusal leaves the bytes as they were, and counts nothing
  pub write_refused : ((write es out).done.code ≢ 0) → (write es out).bytes ≡ out
  write_refused = write_cases (λ (w : Wrote). (w.done.code ≢ 0) → w.bytes ≡ out) (λ f r. refl) (λ f h r. refl) (λ f h r. absurd (r refl))

  pub write_none : ((write es out).done.code ≢ 0) → (write es out).done.count ≡ 0
  write_none = write_cases (λ (w : Wrote). (w.done.code ≢ 0) → w.done.count ≡ 0) (λ f r. fault_count 0 es) (λ f h r. full_count (length out) 0 es) (λ f h r. absurd (r refl))

  -- accepted exactly where nothing is at fault and every field has room
  abbrev pub Fits : Type 0
  Fits = Fine es × (length (written es) ≤ length out)

  pub write_accepts : ((write es out).done.code ≡ 0) ↔ Fits
  write_accepts = (write_cases (λ (w : Wrote). w.done.code ≡ 0 → Fits) (λ f r. absurd (f r)) (λ f h r. absurd (h r)) (λ f h r. ((fault_none 0 es).0 f, omega (arith, room.0 h))), back)
    where
      room : ((full (length out) 0 es).code ≡ 0) ↔ (0 + length (written es) ≤ length out)
      room = full_none (length out) 0 es (omega arith)

      back : Fits → (write es out).done.code ≡ 0
      back g = ap (λ (w : Wrote). w.done.code) (write_all ((fault_none 0 es).1 g.0) (room.1 (omega (arith, g.1))))

-- ---- the pass that checks

-- an event's own fault is never 18, so once found it stands
pub code_settled : (e : Event) → (event_code e ≢ 0) → settled (event_code e) ≡ true
unfolding event_code
code_settled e c =
    let none : nat_eq (event_code e) 0 ≡ false = ne_eqb (event_code e) 0 c in
    let other : nat_eq (event_code e) NO-ROOM ≡ false =
    ne_eqb (event_code e) NO-ROOM (never (row UNKNOWN-TAG (not (known e.tag)) ∷ row BAD-VALUE (not (event_fits e)) ∷ []) NO-ROOM refl)
    in
    λ i. not (none i) && not (other i)

-- a pass that has come to an offset
abbrev pub gone_to : Pass → ℕ → Pass
gone_to p n = record { puts = p.puts; code = p.code; found = p.found; at = n; room = p.room }

-- and one whose room ended in the field before that offset
abbrev filled_to : Pass → ℕ → Pass
filled_to p n = record { puts = p.puts; code = NO-ROOM; found = p.at; at = n; room = p.room }

module _ (p : Pass) (e : Event) where
  abbrev end : ℕ
  end = next p.at e

  -- what is kept in mind: a, or b where it is here that the room ends
  abbrev minded : ℕ → ℕ → ℕ
  minded a b = pick (p.code == 0) (pick (nat_le end p.room) a b) a

  minded_open : (a b : ℕ) → p.code ≡ 0 → minded a b ≡ pick (nat_le end p.room) a b
  minded_open a b c = pick_true (p.code == 0) (pick (nat_le end p.room) a b) a (eq-eqb p.code 0 c)

  minded_on : (a b : ℕ) → (p.code ≡ 0 → end ≤ p.room) → minded a b ≡ a
  minded_on a b h = go (ℕ_discrete p.code 0)
    where
      go : Dec (p.code ≡ 0) → minded a b ≡ a
      go (yes c) = minded_open a b c ∙ pick_true (nat_le end p.room) a b (le-leb end p.room (h c))
      go (no c) = pick-false (p.code == 0) (pick (nat_le end p.room) a b) a (ne_eqb p.code 0 c)

  minded_here : (a b : ℕ) → p.code ≡ 0 → p.room < end → minded a b ≡ b
  minded_here a b c l = minded_open a b c ∙ pick-false (nat_le end p.room) a b (lt-leb end p.room l)

  abbrev onward : Pass
  onward = counted p (field_length e.tag)

  -- a sum below 2 ^ 64 does not wrap
  counted_is : {c f : ℕ} → end < 2 ^ 64 → minded p.code NO-ROOM ≡ c → minded p.found p.at ≡ f → onward ≡ record { puts = p.puts; code = c; found = f; at = end; room = p.room }
  unfolding counted
  counted_is small c f = λ i. record { puts = p.puts; code = c i; found = f i; at = mod-eq_of_lt small i; room = p.room }

  abbrev checked_here : Pass
  checked_here = pick (event_code e == 0) onward (faulted p (event_code e))

  pub check_stays : settled p.code ≡ true → checked_on p e ≡ p
  unfolding checked_on
  check_stays s = pick_true (settled p.code) p checked_here s

  check_open : settled p.code ≡ false → checked_on p e ≡ checked_here
  unfolding checked_on
  check_open s = pick-false (settled p.code) p checked_here s

  check_bad : settled p.code ≡ false → (event_code e ≢ 0) → checked_on p e ≡ faulted p (event_code e)
  check_bad s c = check_open s ∙ pick-false (event_code e == 0) onward (faulted p (event_code e)) (ne_eqb (event_code e) 0 c)

  -- past an event at which nothing is, the pass goes on, or its room ends here
  check_good : (P : Pass → Type 0) → settled p.code ≡ false → event_code e ≡ 0 → end < 2 ^ 64 → ((p.code ≡ 0 → end ≤ p.room) → P (gone_to p end)) → (p.code ≡ 0 → p.room < end → P (filled_to p end)) → P (checked_on p e)
  check_good P s c small on stop = go (ℕ_discrete p.code 0) (dec_le end p.room)
    where
      so : {q : Pass} → onward ≡ q → P q → P (checked_on p e)
      so to x = subst P (sym (check_open s ∙ pick_true (event_code e == 0) onward (faulted p (event_code e)) (eq-eqb (event_code e) 0 c) ∙ to)) x

      gone : (p.code ≡ 0 → end ≤ p.room) → P (checked_on p e)
      gone h = so (counted_is small (minded_on p.code NO-ROOM h) (minded_on p.found p.at h)) (on h)

      go : Dec (p.code ≡ 0) → Dec (end ≤ p.room) → P (checked_on p e)
      go (no z) h = gone (λ y. absurd (z y))
      go (yes z) (yes h) = gone (λ y. h)
      go (yes z) (no h) =
          let l : p.room < end = lt_of_not-le h in so (counted_is small (minded_here p.code NO-ROOM z l) (minded_here p.found p.at z l)) (stop z l)

  check_puts : (checked_on p e).puts ≡ p.puts
  unfolding checked_on counted
  check_puts =
      let Same : Pass → Type 0 = λ q. q.puts ≡ p.puts in
      pick_both Same (settled p.code) p checked_here refl (pick_both Same (event_code e == 0) onward (faulted p (event_code e)) refl refl)

  pub check_room : (checked_on p e).room ≡ p.room
  unfolding checked_on counted
  check_room =
      let Same : Pass → Type 0 = λ q. q.room ≡ p.room in
      pick_both Same (settled p.code) p checked_here refl (pick_both Same (event_code e == 0) onward (faulted p (event_code e)) refl refl)

-- a state that every act leaves stands after all of them
pub run_stays : {S A : Type 0} (step : S → A → S) (s : S) (xs : List A) → ((a : A) → step s a ≡ s) → run step s xs ≡ s
run_stays {S} step s xs h = run_keeps step (λ (t : S). t ≡ s) (λ t a e. ap (λ (r : S). step r a) e ∙ h a) s xs refl

-- the pass that checks leaves what is lent
pub checks_all : (es : List Event) (p : Pass) (out : List ℕ) → p.puts ≡ false → run passed (kept p out) es ≡ kept (run checked_on p es) out
unfolding run
checks_all [] p out h = refl
checks_all (e ∷ es) p out h =
    ap (λ (k : Kept Pass). run passed k es) (checks_on (kept p out) e h) ∙ checks_all es (checked_on p e) out (check_puts p e ∙ h)

told_good : (p : Pass) → p.code ≡ 0 → told p ≡ done 0 0 p.at
unfolding told
told_good p c = pick_true (p.code == 0) (done 0 0 p.at) (done p.code p.found 0) (eq-eqb p.code 0 c)

pub told_bad : (p : Pass) → (p.code ≢ 0) → told p ≡ done p.code p.found 0
unfolding told
told_bad p c = pick-false (p.code == 0) (done 0 0 p.at) (done p.code p.found 0) (ne_eqb p.code 0 c)

-- the first fault is told, whether 18 was found before it or not
abbrev pub Tells : List Event → Pass → Type 0
Tells es p = settled p.code ≡ false → p.at + length (written es) < 2 ^ 64 → ((fault p.at es).code ≢ 0) → told (run checked_on p es) ≡ fault p.at es

pub fault_told : (es : List Event) (p : Pass) → Tells es p
unfolding run fault
fault_told [] p s small f = absurd (f refl)
fault_told (e ∷ es) p s small f = go (ℕ_discrete (event_code e) 0) (fault_told es)
  where
    go : Dec (event_code e ≡ 0) → ((q : Pass) → Tells es q) → told (run checked_on p (e ∷ es)) ≡ fault p.at (e ∷ es)
    go (yes c) more =
        let on : fault p.at (e ∷ es) ≡ fault (end p e) es = fault_on p.at e es c in
        let within : end p e + length (written es) < 2 ^ 64 = omega (arith, small, far p.at e es) in
        let later : (fault (end p e) es).code ≡ 0 → ⊥ = λ z. f (ap (λ (d : Done). d.code) on ∙ z) in
        check_good p e (λ (q : Pass). told (run checked_on q es) ≡ fault (end p e) es) s c (omega (arith, within)) (λ h. more (gone_to p (end p e)) s within later) (λ z h. more (filled_to p (end p e)) refl within later) ∙
        sym on
    go (no c) more =
        let r : Pass = faulted p (event_code e) in
        ap (λ (q : Pass). told (run checked_on q es)) (check_bad p e s c) ∙
        ap told (run_stays checked_on r es (λ a. check_stays r a (code_settled e c))) ∙
        told_bad r c ∙
        sym (fault_here p.at e es c)

-- where nothing is at fault, and all has room unless 18 was found before, the pass goes to the end
pub run_fine : (es : List Event) (p : Pass) → settled p.code ≡ false → p.at + length (written es) < 2 ^ 64 → Fine es → (p.code ≡ 0 → p.at + length (written es) ≤ p.room) → run checked_on p es ≡ gone_to p (p.at + length (written es))
unfolding run written
run_fine [] p s small f h = ap (λ (n : ℕ). gone_to p n) (sym (add-zero p.at))
run_fine (e ∷ es) p s small f h =
    let last : end p e + length (written es) ≡ p.at + length (written (e ∷ es)) = far p.at e es in
    check_good p e (λ (q : Pass). run checked_on q es ≡ gone_to p (end p e + length (written es))) s f.0 (omega (arith, small, last))
    (λ l. run_fine es (gone_to p (end p e)) s (omega (arith, small, last)) f.1 (λ z. omega (arith, h z, last)))
    (λ z l. absurd (omega (arith, h z, last, l))) ∙
    ap (λ (n : ℕ). gone_to p n) last

-- and the first that has no room is told
pub full_told : (es : List Event) (p : Pass) → p.code ≡ 0 → p.at + length (written es) < 2 ^ 64 → Fine es → ((full p.room p.at es).code ≢ 0) → told (run checked_on p es) ≡ full p.room p.at es
unfolding run full
full_told [] p c small f h = absurd (h refl)
full_told (e ∷ es) p c small f h =
    let within : end p e + length (written es) < 2 ^ 64 = omega (arith, small, far p.at e es) in
    check_good p e (λ (q : Pass). told (run checked_on q es) ≡ full p.room p.at (e ∷ es)) (ap settled c) f.0 (omega (arith, within))
    (λ l. let on : full p.room p.at (e ∷ es) ≡ full p.room (end p e) es = full_on p.at e es p.room (l c) in
    full_told es (gone_to p (end p e)) c within f.1 (λ z. h (ap (λ (d : Done). d.code) on ∙ z)) ∙ sym on)
    (λ z l. ap told (run_fine es (filled_to p (end p e)) refl within f.1 (λ no. absurd (omega (arith, no)))) ∙
    told_bad (filled_to p (end p e + length (written es))) (λ no. omega (arith, no)) ∙
    sym (full_here p.at e es p.room l))

-- ---- what is told is an answer

-- the number of nothing at fault, or of a fault
pub record Numbered (n : ℕ) : Type 0 where
  pub found : Result (Unit {0}) Fault
  pub is : code_of found ≡ n

event_numbered : (e : Event) → Numbered (event_code e)
unfolding event_code first_of
event_numbered e =
    pick_both Numbered (not (known e.tag)) UNKNOWN-TAG (pick (not (event_fits e)) BAD-VALUE 0) (record { found = Err UnknownTag; is = refl })
    (pick_both Numbered (not (event_fits e)) BAD-VALUE 0 (record { found = Err BadValue; is = refl }) (record { found = Ok tt; is = refl }))

check_numbered : (p : Pass) (e : Event) → Numbered p.code → Numbered (checked_on p e).code
unfolding checked_on counted
check_numbered p e n =
    let Named : Pass → Type 0 = λ q. Numbered q.code in
    let room : Numbered (pick (nat_le (end p e) p.room) p.code NO-ROOM) = pick_both Numbered (nat_le (end p e) p.room) p.code NO-ROOM n (record { found = Err NoRoom; is = refl }) in
    pick_both Named (settled p.code) p (checked_here p e) n
    (pick_both Named (event_code e == 0) (onward p e) (faulted p (event_code e)) (pick_both Numbered (p.code == 0) (pick (nat_le (end p e) p.room) p.code NO-ROOM) p.code room n) (event_numbered e))

pub told_answers : (es : List Event) (p : Pass) → Numbered p.code → Answers (told (run checked_on p es))
told_answers es p n = go last.found last.is
  where
    q : Pass
    q = run checked_on p es

    last : Numbered q.code
    last = run_keeps checked_on (λ (r : Pass). Numbered r.code) check_numbered p es n

    go : (r : Result (Unit {0}) Fault) → code_of r ≡ q.code → Answers (told q)
    go (Ok x) e = record { result = Ok q.at; is = sym (told_good q (sym e)) }
    go (Err f) e = record { result = Err (record { fault = f; at = q.found }); is = ap (λ (c : ℕ). done c q.found 0) e ∙ sym (told_bad q (λ z. number_some f (e ∙ z))) }

-- ---- the pass that puts

-- after a refusal it puts nothing
pub put_stop : (es : List Event) (p : Pass) (out : List ℕ) → p.puts ≡ true → (p.code ≢ 0) → run passed (kept p out) es ≡ kept p out
put_stop es p out h c =
    run_stays passed (kept p out) es (λ e. puts_on (kept p out) e h ∙ put_stays (kept p out) e (ap (λ (t : Bool). t && event_code e == 0 && nat_le (p.at + field_length e.tag) (length out)) (ne_eqb p.code 0 c)))

-- else every field, one behind the other
pub put_all : (es : List Event) (p : Pass) (out : List ℕ) → p.puts ≡ true → p.code ≡ 0 → Fine es → p.at + length (written es) ≤ length out → (run passed (kept p out) es).lent ≡ pasted p.at (written es) out
unfolding run written
put_all [] p out h c f l = sym (pasted_none p.at out)
put_all (e ∷ es) p out h c f l =
    let last : end p e + length (written es) ≡ p.at + length (written (e ∷ es)) = far p.at e es in
    let room : end p e ≤ length out = omega (arith, l, last) in
    let after : List ℕ = pasted p.at (field e) out in
    let may : may_put p (length out) e ≡ true = λ i. eq-eqb p.code 0 c i && eq-eqb (event_code e) 0 f.0 i && le-leb (end p e) (length out) room i in
    let long : p.at + length (field e) ≡ end p e = ap (λ (n : ℕ). p.at + n) (field_length_lem e) in
    ap (λ (k : Kept Pass). (run passed k es).lent) (puts_on (kept p out) e h ∙ put_goes (kept p out) e may) ∙
    put_all es (gone_to p (end p e)) after h c f.1 (omega (arith, l, last, pasted_same (kept p out) e room)) ∙
    ap (λ (n : ℕ). pasted n (written es) after) (sym long) ∙
    pasted_then p.at (field e) out (omega (arith, room, long)) (written es)

-- ---- both

module _ (es : List Event) (out : List ℕ) (small : length es * 148 < 2 ^ 63) where
  abbrev start : Pass
  start = first_pass (length out)

  abbrev after : Pass
  after = run checked_on start es

  -- what the two passes come to, by the pass that checked
  abbrev both : Pass → Wrote
  both q = wrote (told q) (run passed (kept (second_pass q) out) es).lent

  -- the count wraps nowhere
  within : 0 + length (written es) < 2 ^ 64
  within = omega (arith, written_bound es, small)

  refused : (d : Done) → told after ≡ d → (d.code ≢ 0) → both after ≡ wrote d out
  refused d e h =
      let stopped : run passed (kept (second_pass after) out) es ≡ kept (second_pass after) out =
      put_stop es (second_pass after) out refl (λ z. h (ap (λ (r : Done). r.code) (sym e ∙ told_good after z)))
      in
      λ i. wrote (e i) (stopped i).lent

  accepted : Fine es → 0 + length (written es) ≤ length out → both after ≡ whole es out
  accepted f l =
      let q : Pass = gone_to start (0 + length (written es)) in
      ap both (run_fine es start refl within f (λ z. l)) ∙
      (λ i. wrote (told_good q refl i) (put_all es (second_pass q) out refl refl f l i)) ∙
      ap (λ (n : ℕ). wrote (done 0 0 n) (written es ++ drop n out)) (zero-add (length (written es)))

  pub two_passes : wrote (told (checked_all es out).state) (run passed (kept (second_pass (checked_all es out).state) (checked_all es out).lent) es).lent ≡ write es out
  two_passes =
      ap (λ (k : Kept Pass). wrote (told k.state) (run passed (kept (second_pass k.state) k.lent) es).lent) (checks_all es start out refl) ∙
      write_cases es out (λ (w : Wrote). both after ≡ w) (λ f. refused (fault 0 es) (fault_told es start refl within f) f)
      (λ f h. refused (full (length out) 0 es) (full_told es start refl within ((fault_none 0 es).0 f) h) h)
      (λ f h. accepted ((fault_none 0 es).0 f) ((full_none (length out) 0 es (omega arith)).0 h))
