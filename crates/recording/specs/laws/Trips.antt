-- Lists of events, and then their bytes.
--   Wholes               every event's set has its places
--   scan_through, heard_written   the fields of events, read one after the other, whatever stands before and behind them
--   scan_written         nothing but the fields of events, read to the end
--   read_written         bytes that are the fields of events read as those events
-- Not here: one event, in laws/Undo; any bytes, and then their events, in laws/Reads; the calls, in laws/Calls.
-- Assumes nothing.
use Rattle.std.specs.Prelude.{◌≡◌, ℕ, suc, ◌+◌, ◌-◌, ◌<◌, ◌≤◌, List, [], ◌∷◌, ◌++◌, length, drop, refl}
use Rattle.std.proofs.Common.{sym, ◌∙◌, ap, append_assoc, append-nil, zero-add, add-zero, suc-add, arith, length-append}
use Rattle.std.proofs.Math.Seq.{drop-append_seam}
use Rattle.recording.specs.declared.event.Event.{Event}
use Rattle.recording.specs.declared.reading.Done.{Done}
use Rattle.recording.specs.Scan.{One, done, begun, scanned, checked, heard, reading, read}
use Rattle.recording.specs.Layout.{field_length}
use Rattle.recording.specs.Event.{event_code}
use Rattle.recording.specs.Field.{field, tag_in, event_in, field_code}
use Rattle.recording.specs.Pass.{written}
use Rattle.recording.specs.laws.Layout.{field_length_lem}
use Rattle.recording.specs.laws.Codes.{code_sound}
use Rattle.recording.specs.laws.Passes.{Fine}
use Rattle.recording.specs.laws.Scan.{scan_on, scan-end, goes, stops, one_good, check_all, at_good}
use Rattle.recording.specs.laws.Undo.{Whole, tag_back, event_back, code_back}

abbrev pub Wholes : List Event → Type 0
Wholes [] = Unit {0}
Wholes (e ∷ es) = Whole e × Wholes es

-- ---- events, and then their bytes

-- every event has some bytes
pub written_more : (es : List Event) → length es ≤ length (written es)
unfolding written
written_more [] = omega arith
written_more (e ∷ es) = omega (arith, written_more es, length-append (field e) (written es), field_length_lem e)

module _ (xs : List ℕ) (e : Event) (rest : List ℕ) (s : event_code e ≡ 0) (w : Whole e) where
  abbrev bytes : List ℕ
  bytes = xs ++ (field e ++ rest)

  -- the field of an event, wherever it stands
  here : drop (length xs) bytes ≡ field e ++ rest
  here = drop-append_seam xs (field e ++ rest)

  pub code_here : field_code (drop (length xs) bytes) ≡ 0
  code_here = ap field_code here ∙ code_back e rest (code_sound e s) w

  pub next_here : length xs + field_length (tag_in (drop (length xs) bytes)) ≡ length (xs ++ field e)
  next_here = ap (λ (zs : List ℕ). length xs + field_length (tag_in zs)) here ∙ ap (λ (t : ℕ). length xs + field_length t) (tag_back e rest) ∙ ap (λ (n : ℕ). length xs + n) (sym (field_length_lem e)) ∙ sym (length-append xs (field e))

  pub event_here : event_in (drop (length xs) bytes) ≡ e
  event_here = ap event_in here ∙ event_back e rest (code_sound e s) w

  pub more_here : length xs < length bytes
  more_here = omega (arith, length-append xs (field e ++ rest), length-append (field e) rest, field_length_lem e)

  pub moved : bytes ≡ (xs ++ field e) ++ rest
  moved = sym (append_assoc xs (field e) rest)

-- so many fields read one after the other, whatever stands behind them
pub scan_through : (xs : List ℕ) (es : List Event) (rest : List ℕ) (n k : ℕ) → Fine es → Wholes es
    → scanned (length es + n) (xs ++ (written es ++ rest)) (done 0 (length xs) k) ≡ scanned n (xs ++ (written es ++ rest)) (done 0 (length (xs ++ written es)) (k + length es))
unfolding written
scan_through xs [] rest n k s w =
    ap (λ (m : ℕ). scanned m (xs ++ rest) (done 0 (length xs) k)) (zero-add n)
    ∙ ap (λ (zs : List ℕ). scanned n (xs ++ rest) (done 0 (length zs) k)) (sym (append-nil xs))
    ∙ ap (λ (m : ℕ). scanned n (xs ++ rest) (done 0 (length (xs ++ [])) m)) (sym (add-zero k))
scan_through xs (e ∷ es) rest n k s w =
    let later = written es ++ rest in
    let bytes = xs ++ (field e ++ later) in
    let there : xs ++ ((field e ++ written es) ++ rest) ≡ bytes = ap (λ (zs : List ℕ). xs ++ zs) (append_assoc (field e) (written es) rest) in
    let m = moved xs e later s.0 w.0 in
    let far : k + 1 + length es ≡ k + suc (length es) = omega arith in
    ap (λ (zs : List ℕ). scanned (suc (length es) + n) zs (done 0 (length xs) k)) there
    ∙ ap (λ (j : ℕ). scanned j bytes (done 0 (length xs) k)) (suc-add (length es) n)
    ∙ scan_on bytes (length es + n) (done 0 (length xs) k) (goes bytes (length xs) k (more_here xs e later s.0 w.0))
    ∙ ap (λ (d : Done). scanned (length es + n) bytes d) (one_good bytes (done 0 (length xs) k) (code_here xs e later s.0 w.0) ∙ ap (λ (at : ℕ). done 0 at (k + 1)) (next_here xs e later s.0 w.0))
    ∙ ap (λ (zs : List ℕ). scanned (length es + n) zs (done 0 (length (xs ++ field e)) (k + 1))) m
    ∙ scan_through (xs ++ field e) es rest n (k + 1) s.1 w.1
    ∙ ap (λ (zs : List ℕ). scanned n zs (done 0 (length ((xs ++ field e) ++ written es)) (k + 1 + length es))) (sym m ∙ sym there)
    ∙ ap (λ (zs : List ℕ). scanned n (xs ++ ((field e ++ written es) ++ rest)) (done 0 (length zs) (k + 1 + length es))) (append_assoc xs (field e) (written es))
    ∙ ap (λ (j : ℕ). scanned n (xs ++ ((field e ++ written es) ++ rest)) (done 0 (length (xs ++ (field e ++ written es))) j)) far

-- and where nothing does, the end is reached
pub scan_written : (es : List Event) (n : ℕ) → Fine es → Wholes es → length es ≤ n → scanned n (written es) begun ≡ done 0 (length (written es)) (length es)
scan_written es n s w h =
    let bytes = written es in
    let enough : length es + (n - length es) ≡ n = omega (arith, h) in
    let count : 0 + length es ≡ length es = omega arith in
    ap (λ (m : ℕ). scanned m bytes begun) (sym enough)
    ∙ ap (λ (zs : List ℕ). scanned (length es + (n - length es)) zs begun) (sym (append-nil bytes))
    ∙ scan_through [] es [] (n - length es) 0 s w
    ∙ scan-end (bytes ++ []) (n - length es) (done 0 (length bytes) (0 + length es)) (stops (bytes ++ []) (length bytes) (0 + length es) (omega (arith, ap length (append-nil bytes))))
    ∙ ap (λ (m : ℕ). done 0 (length bytes) m) count

pub heard_written : (xs : List ℕ) (es : List Event) → Fine es → Wholes es → heard (length es) (xs ++ written es) (length xs) ≡ es
unfolding written heard
heard_written xs [] s w = refl
heard_written xs (e ∷ es) s w =
    let bytes = xs ++ (field e ++ written es) in
    let one = at_good bytes (length xs) (code_here xs e (written es) s.0 w.0) in
    ap (λ (o : One). o.event ∷ heard (length es) bytes o.next) one
    ∙ ap (λ (x : Event). x ∷ heard (length es) bytes (length xs + field_length (tag_in (drop (length xs) bytes)))) (event_here xs e (written es) s.0 w.0)
    ∙ ap (λ (at : ℕ). e ∷ heard (length es) bytes at) (next_here xs e (written es) s.0 w.0)
    ∙ ap (λ (zs : List ℕ). e ∷ heard (length es) zs (length (xs ++ field e))) (moved xs e (written es) s.0 w.0)
    ∙ ap (λ (zs : List Event). e ∷ zs) (heard_written (xs ++ field e) es s.1 w.1)

-- reading what was written gives the same events, and leaves the places past them
pub read_written : (es out : List Event) → Fine es → Wholes es → length es ≤ length out → read (written es) out ≡ reading (done 0 0 (length es)) (es ++ drop (length es) out)
unfolding read
read_written es out s w h =
    let bytes = written es in
    let whole = scan_written es (length bytes) s w (written_more es) in
    let part = scan_written es (length out) s w h in
    let c : checked bytes (length out) ≡ done 0 0 (length es) =
    check_all bytes (length out) (ap (λ (d : Done). d.code) whole) (omega (arith, ap (λ (d : Done). d.at) part)) ∙ ap (λ (d : Done). done 0 0 d.count) part
    in
    ap (λ (d : Done). reading d (heard d.count bytes 0 ++ drop d.count out)) c
    ∙ ap (λ (zs : List Event). reading (done 0 0 (length es)) (zs ++ drop (length es) out)) (heard_written [] es s w)
