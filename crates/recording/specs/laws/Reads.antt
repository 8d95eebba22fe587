-- Reading: each answer exactly when.
--   Parsed, parsed       any bytes are the fields of some events, and behind them what is no good field, or nothing
--   read_fault           something stands there: its number, at its tag, however short the list
--   read_full            nothing does, and the list is too short: 18, at the first field that has no place
--   Answer, read_answer  with read_written of laws/Trips, these are all
--   check_none, read-refused   a refusal counts nothing, and leaves the list as it was
--   check_counts         what is not refused counts the fields
-- Not here: what is at fault in one field, in laws/Codes; the calls one after the other, in laws/Calls.
-- Assumes nothing.
use Rattle.std.specs.Prelude.{◌≡◌, ℕ, zero, suc, ◌+◌, ◌-◌, ◌<◌, ◌≤◌, List, [], ◌∷◌, ◌++◌, length, take, drop, ◌≢◌, refl}
use Rattle.std.proofs.Common.{sym, ◌∙◌, ap, subst, append_assoc, append-nil, lt_of_not-le, arith, length-append, length-drop, take-append-drop, length-take-le}
use Rattle.std.proofs.Math.Decide.{ℕ_discrete, dec_le}
use Rattle.std.proofs.Math.Seq.{drop-append_seam}
use Rattle.recording.specs.declared.event.Event.{Event}
use Rattle.recording.specs.declared.reading.Done.{Done}
use Rattle.recording.specs.Scan.{done, begun, scanned, checked, heard, reading, read}
use Rattle.recording.specs.Layout.{field_length}
use Rattle.recording.specs.Event.{NO-ROOM}
use Rattle.recording.specs.Field.{field, tag_in, event_in, field_code}
use Rattle.recording.specs.Pass.{written}
use Rattle.recording.specs.laws.Codes.{code_good}
use Rattle.recording.specs.laws.Passes.{Fine}
use Rattle.recording.specs.laws.Scan.{Step, ended, good, bad, scan_step, check_fault, check_full, check_all}
use Rattle.recording.specs.laws.Undo.{Bytes, bytes_drop, field_back, event_sound, event_whole}
use Rattle.recording.specs.laws.Trips.{Wholes, written_more, scan_through, scan_written, read_written}

-- ---- any bytes

-- the fields of some events, and behind them no good field
pub record Parsed (bytes : List ℕ) : Type 0 where
  pub events : List Event
  pub rest : List ℕ
  pub fine : Fine events
  pub whole : Wholes events
  pub split : bytes ≡ written events ++ rest
  pub stop : field_code rest ≡ 0 → ⊥

parse_none : (bs : List ℕ) → (field_code bs ≢ 0) → Parsed bs
unfolding written
parse_none bs c = record { events = []; rest = bs; fine = tt; whole = tt; split = refl; stop = c }

parse_more : (bs : List ℕ) → Bytes bs → field_code bs ≡ 0 → Parsed (drop (field_length (tag_in bs)) bs) → Parsed bs
unfolding written
parse_more bs b c t =
    let g = code_good bs c in
    record {
      events = event_in bs ∷ t.events;
      rest = t.rest;
      fine = (event_sound bs g, t.fine);
      whole = (event_whole bs, t.whole);
      split = sym (field_back bs b g) ∙ ap (λ (zs : List ℕ). field (event_in bs) ++ zs) t.split ∙ sym (append_assoc (field (event_in bs)) (written t.events) t.rest);
      stop = t.stop;
    }

parse : (n : ℕ) (bs : List ℕ) → length bs ≤ n → Bytes bs → Parsed bs
parse zero bs h b = parse_none bs (λ c. omega (arith, h, (code_good bs c).headed))
parse (suc n) bs h b = go (ℕ_discrete (field_code bs) 0) (parse n (drop (field_length (tag_in bs)) bs))
  where
    go : Dec (field_code bs ≡ 0) → (length (drop (field_length (tag_in bs)) bs) ≤ n → Bytes (drop (field_length (tag_in bs)) bs) → Parsed (drop (field_length (tag_in bs)) bs)) → Parsed bs
    go (yes c) more = parse_more bs b c (more (omega (arith, h, length-drop (field_length (tag_in bs)) bs)) (bytes_drop (field_length (tag_in bs)) bs b))
    go (no c) more = parse_none bs c

pub parsed : (bytes : List ℕ) → Bytes bytes → Parsed bytes
parsed bytes b = parse (length bytes) bytes (omega arith) b

-- ---- a refusal

-- counts nothing
pub check_none : (bytes : List ℕ) (room : ℕ) → ((checked bytes room).code ≢ 0) → (checked bytes room).count ≡ 0
check_none bytes room c = go (ℕ_discrete (scanned (length bytes) bytes begun).code 0) (dec_le (length bytes) (scanned room bytes begun).at)
  where
    go : Dec ((scanned (length bytes) bytes begun).code ≡ 0) → Dec (length bytes ≤ (scanned room bytes begun).at) → (checked bytes room).count ≡ 0
    go (no e) h = ap (λ (d : Done). d.count) (check_fault bytes room e)
    go (yes e) (no h) = ap (λ (d : Done). d.count) (check_full bytes room e (lt_of_not-le h))
    go (yes e) (yes h) = absurd (c (ap (λ (d : Done). d.code) (check_all bytes room e h)))

-- and what is not refused counts the fields that there are
pub check_counts : (bytes : List ℕ) (room : ℕ) → (checked bytes room).code ≡ 0 → (scanned room bytes begun).count ≡ (checked bytes room).count
check_counts bytes room c = go (ℕ_discrete (scanned (length bytes) bytes begun).code 0) (dec_le (length bytes) (scanned room bytes begun).at)
  where
    go : Dec ((scanned (length bytes) bytes begun).code ≡ 0) → Dec (length bytes ≤ (scanned room bytes begun).at) → (scanned room bytes begun).count ≡ (checked bytes room).count
    go (no e) h = absurd (e (sym (ap (λ (d : Done). d.code) (check_fault bytes room e)) ∙ c))
    go (yes e) (no h) = let full : NO-ROOM ≡ 0 = sym (ap (λ (d : Done). d.code) (check_full bytes room e (lt_of_not-le h))) ∙ c in absurd (omega (arith, full))
    go (yes e) (yes h) = sym (ap (λ (d : Done). d.count) (check_all bytes room e h))

-- and so the list is as it was
counts_none : (bytes : List ℕ) (out : List Event) (d : Done) → checked bytes (length out) ≡ d → d.count ≡ 0 → read bytes out ≡ reading d out
unfolding read heard
counts_none bytes out d e z = ap (λ (c : Done). reading c (heard c.count bytes 0 ++ drop c.count out)) e ∙ ap (λ (n : ℕ). reading d (heard n bytes 0 ++ drop n out)) z

pub read-refused : (bytes : List ℕ) (out : List Event) → ((read bytes out).done.code ≢ 0) → read bytes out ≡ reading (checked bytes (length out)) out
unfolding read
read-refused bytes out c = counts_none bytes out (checked bytes (length out)) refl (check_none bytes (length out) c)

-- ---- which, and where

-- a field is at fault: its number at its tag, however short the list
pub read_fault : (es : List Event) (rest : List ℕ) (out : List Event) → Fine es → Wholes es → 0 < length rest → (field_code rest ≢ 0)
    → read (written es ++ rest) out ≡ reading (done (field_code rest) (length (written es)) 0) out
read_fault es rest out s w h c = counts_none bytes out (done (field_code rest) at 0) found refl
  where
    bytes : List ℕ
    bytes = written es ++ rest

    at : ℕ
    at = length (written es)

    left : ℕ
    left = length bytes - suc (length es)

    behind : drop at bytes ≡ rest
    behind = drop-append_seam (written es) rest

    enough : length bytes ≡ length es + suc left
    enough = omega (arith, length-append (written es) rest, written_more es, h)

    here : Step bytes left at (0 + length es) → scanned (suc left) bytes (done 0 at (0 + length es)) ≡ done (field_code rest) at (0 + length es)
    here (ended l e) = absurd (omega (arith, l, length-append (written es) rest, h))
    here (good f e) = absurd (c (sym (ap field_code behind) ∙ f))
    here (bad f e) = e ∙ ap (λ (zs : List ℕ). done (field_code zs) at (0 + length es)) behind

    whole : scanned (length bytes) bytes begun ≡ done (field_code rest) at (0 + length es)
    whole = ap (λ (n : ℕ). scanned n bytes begun) enough ∙ scan_through [] es rest (suc left) 0 s w ∙ here (scan_step bytes left at (0 + length es))

    found : checked bytes (length out) ≡ done (field_code rest) at 0
    found = check_fault bytes (length out) (λ z. c (sym (ap (λ (d : Done). d.code) whole) ∙ z)) ∙ ap (λ (d : Done). done d.code d.at 0) whole

-- two lists of events, one after the other
pub written_both : (xs ys : List Event) → written (xs ++ ys) ≡ written xs ++ written ys
unfolding written
written_both [] ys = refl
written_both (x ∷ xs) ys = ap (λ (zs : List ℕ). field x ++ zs) (written_both xs ys) ∙ sym (append_assoc (field x) (written xs) (written ys))

pub fine_parts : (xs ys : List Event) → Fine (xs ++ ys) → Fine xs × Fine ys
fine_parts [] ys s = (tt, s)
fine_parts (x ∷ xs) ys s = let p = fine_parts xs ys s.1 in ((s.0, p.0), p.1)

whole_parts : (xs ys : List Event) → Wholes (xs ++ ys) → Wholes xs × Wholes ys
whole_parts [] ys s = (tt, s)
whole_parts (x ∷ xs) ys s = let p = whole_parts xs ys s.1 in ((s.0, p.0), p.1)

-- none is, and the list is too short: 18 at the first field that has no place
pub read_full : (before after out : List Event) → Fine (before ++ after) → Wholes (before ++ after) → length before ≡ length out → 0 < length after
    → read (written (before ++ after)) out ≡ reading (done NO-ROOM (length (written before)) 0) out
unfolding scanned
read_full before after out s w same h = counts_none bytes out (done NO-ROOM at 0) found refl
  where
    bytes : List ℕ
    bytes = written (before ++ after)

    at : ℕ
    at = length (written before)

    two : bytes ≡ written before ++ written after
    two = written_both before after

    part : scanned (length out) bytes begun ≡ done 0 at (0 + length before)
    part =
        let enough : length out ≡ length before + 0 = omega (arith, same) in
        ap (λ (n : ℕ). scanned n bytes begun) enough ∙ ap (λ (zs : List ℕ). scanned (length before + 0) zs begun) two
        ∙ scan_through [] before (written after) 0 0 (fine_parts before after s).0 (whole_parts before after w).0

    whole : (scanned (length bytes) bytes begun).code ≡ 0
    whole = ap (λ (d : Done). d.code) (scan_written (before ++ after) (length bytes) s w (written_more (before ++ after)))

    more : (scanned (length out) bytes begun).at < length bytes
    more = omega (arith, ap (λ (d : Done). d.at) part, ap length two, length-append (written before) (written after), written_more after, h)

    found : checked bytes (length out) ≡ done NO-ROOM at 0
    found = check_full bytes (length out) whole more ∙ ap (λ (d : Done). done NO-ROOM d.at 0) part

-- every reading has one of three answers
pub data Answer (bytes : List ℕ) (out : List Event) : Type 0 where
  taken : (es : List Event) → Fine es → Wholes es → bytes ≡ written es → length es ≤ length out → read bytes out ≡ reading (done 0 0 (length es)) (es ++ drop (length es) out) → Answer bytes out
  short : (before after : List Event) → Fine (before ++ after) → bytes ≡ written (before ++ after) → length before ≡ length out → 0 < length after
      → read bytes out ≡ reading (done NO-ROOM (length (written before)) 0) out → Answer bytes out
  faulty : (es : List Event) (rest : List ℕ) → Fine es → bytes ≡ written es ++ rest → 0 < length rest → (field_code rest ≢ 0)
      → read bytes out ≡ reading (done (field_code rest) (length (written es)) 0) out → Answer bytes out

pub read_answer : (bytes : List ℕ) (out : List Event) → Bytes bytes → Answer bytes out
read_answer bytes out b = go (parsed bytes b)
  where
    more : (p : Parsed bytes) → (r : List ℕ) → p.rest ≡ r → Answer bytes out
    more p (x ∷ r) e =
        let some : 0 < length p.rest = omega (arith, ap length e) in
        faulty p.events p.rest p.fine p.split some p.stop (ap (λ (zs : List ℕ). read zs out) p.split ∙ read_fault p.events p.rest out p.fine p.whole some p.stop)
    more p [] e =
        let es = p.events in
        let none : bytes ≡ written es = p.split ∙ ap (λ (zs : List ℕ). written es ++ zs) e ∙ append-nil (written es) in
        fits (dec_le (length es) (length out)) none
      where
        fits : Dec (length p.events ≤ length out) → bytes ≡ written p.events → Answer bytes out
        fits (yes h) none = taken p.events p.fine p.whole none h (ap (λ (zs : List ℕ). read zs out) none ∙ read_written p.events out p.fine p.whole h)
        fits (no h) none =
            let es = p.events in
            let k = length out in
            let l : k < length es = lt_of_not-le h in
            let cut : take k es ++ drop k es ≡ es = take-append-drop k es in
            let s : Fine (take k es ++ drop k es) = subst Fine (sym cut) p.fine in
            let same : length (take k es) ≡ k = length-take-le k es (omega (arith, l)) in
            let left : 0 < length (drop k es) = omega (arith, l, length-drop k es) in
            let is : bytes ≡ written (take k es ++ drop k es) = none ∙ ap written (sym cut) in
            short (take k es) (drop k es) s is same left
            (ap (λ (zs : List ℕ). read zs out) is ∙ read_full (take k es) (drop k es) out s (subst Wholes (sym cut) p.whole) same left)

    go : Parsed bytes → Answer bytes out
    go p = more p p.rest refl
