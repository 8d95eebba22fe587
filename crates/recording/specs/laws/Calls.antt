-- Writing and reading, as calls: what each refuses and where, and that each is the other's.
--   write_first, write_no_room, write_good   the three answers of writing, each where it is
--   read_what_was_written   whatever writing accepted reads as the same events
--   write_what_was_read     whatever reading accepted is written as the same bytes
-- In both the places past what is written stay as they were.
-- Not here: the answers of reading, in laws/Reads; one event at fault, in laws/Codes.
-- Assumes nothing.
use Rattle.std.specs.Prelude.{◌≡◌, ℕ, ◌+◌, ◌<◌, ◌≤◌, List, ◌∷◌, ◌++◌, length, take, drop, ◌≢◌}
use Rattle.std.proofs.Common.{sym, ◌∙◌, ap, arith}
use Rattle.std.proofs.Math.Seq.{take-append_seam}
use Rattle.recording.specs.declared.event.Event.{Event}
use Rattle.recording.specs.declared.reading.Done.{Done}
use Rattle.recording.specs.Scan.{done, Reading, reading, read}
use Rattle.recording.specs.Layout.{field_length}
use Rattle.recording.specs.Event.{NO-ROOM, event_code}
use Rattle.recording.specs.Pass.{written, Wrote, wrote, write}
use Rattle.recording.specs.laws.Passes.{Fine, fault_at, fault_none, full_at, full_none, write_fault, write_full, write_all, write_accepts}
use Rattle.recording.specs.laws.Undo.{Bytes}
use Rattle.recording.specs.laws.Trips.{Wholes, read_written}
use Rattle.recording.specs.laws.Reads.{Answer, taken, short, faulty, read_answer}

-- ---- writing

-- the first event at fault: its number, where its tag would stand, and the bytes as they were
pub write_first : (before : List Event) (e : Event) (after : List Event) (out : List ℕ) → Fine before → (event_code e ≢ 0)
    → write (before ++ (e ∷ after)) out ≡ wrote (done (event_code e) (length (written before)) 0) out
write_first before e after out f c =
    let here = fault_at before e after f c in
    write_fault (before ++ (e ∷ after)) out (λ z. c (sym (ap (λ (d : Done). d.code) here) ∙ z)) ∙ ap (λ (d : Done). wrote d out) here

-- none is: 18 at the first that has no room, and the bytes as they were
pub write_no_room : (before : List Event) (e : Event) (after : List Event) (out : List ℕ) → Fine (before ++ (e ∷ after)) → length (written before) ≤ length out → length out < length (written before) + field_length e.tag
    → write (before ++ (e ∷ after)) out ≡ wrote (done NO-ROOM (length (written before)) 0) out
write_no_room before e after out f h l =
    let es = before ++ (e ∷ after) in
    let here = full_at (length out) before e after h l in
    write_full es out ((fault_none 0 es).1 f) (λ z. omega (arith, sym (ap (λ (d : Done). d.code) here) ∙ z)) ∙ ap (λ (d : Done). wrote d out) here

-- and all have room: the fields, and the bytes past them as they were
pub write_good : (es : List Event) (out : List ℕ) → Fine es → length (written es) ≤ length out → write es out ≡ wrote (done 0 0 (length (written es))) (written es ++ drop (length (written es)) out)
write_good es out f h = write_all es out ((fault_none 0 es).1 f) ((full_none (length out) 0 es (omega arith)).1 (omega (arith, h)))

-- ---- each is the other's

-- reading what was written gives the same events
pub read_what_was_written : (es : List Event) (bytes : List ℕ) (out : List Event) → Wholes es → (write es bytes).done.code ≡ 0 → length es ≤ length out
    → read (take (write es bytes).done.count (write es bytes).bytes) out ≡ reading (done 0 0 (length es)) (es ++ drop (length es) out)
read_what_was_written es bytes out w c h =
    let fits = (write_accepts es bytes).0 c in
    ap (λ (r : Wrote). read (take r.done.count r.bytes) out) (write_good es bytes fits.0 fits.1)
    ∙ ap (λ (zs : List ℕ). read zs out) (take-append_seam (written es) (drop (length (written es)) bytes))
    ∙ read_written es out fits.0 w h

-- writing what was read gives the same bytes
pub write_what_was_read : (bytes : List ℕ) (events : List Event) (out : List ℕ) → Bytes bytes → (read bytes events).done.code ≡ 0 → length bytes ≤ length out
    → write (take (read bytes events).done.count (read bytes events).events) out ≡ wrote (done 0 0 (length bytes)) (bytes ++ drop (length bytes) out)
write_what_was_read bytes events out b c h = go (read_answer bytes events b)
  where
    go : Answer bytes events → write (take (read bytes events).done.count (read bytes events).events) out ≡ wrote (done 0 0 (length bytes)) (bytes ++ drop (length bytes) out)
    go (taken es f w e l r) =
        ap (λ (g : Reading). write (take g.done.count g.events) out) r ∙ ap (λ (zs : List Event). write zs out) (take-append_seam es (drop (length es) events))
        ∙ write_good es out f (omega (arith, h, ap length e)) ∙ ap (λ (zs : List ℕ). wrote (done 0 0 (length zs)) (zs ++ drop (length zs) out)) (sym e)
    go (short before after f e same l r) = absurd (omega (arith, sym (ap (λ (g : Reading). g.done.code) r) ∙ c))
    go (faulty es rest f e l d r) = absurd (d (sym (ap (λ (g : Reading). g.done.code) r) ∙ c))
