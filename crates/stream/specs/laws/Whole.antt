-- Reading byte by byte is the reading of the whole (document 02, K8), for any bytes that have an offset each.
--   in_parts       whatever the parts are, reading them comes to reading their bytes
--   scan_whole     the fields come as far, and as many, as reading on has it
--   ended_fault, ended_all   the answer is the first fault, with its offset; or how many fields there are
--   ended_checked  the answer is the reader's, whatever list it is lent, but for 18
--   given_heard, given_count   the events given are those of the fields before the first fault, as many as are counted
--   given_read     and where the reader refuses nothing, those that it gives
-- Not here: how, in Stands.
-- Assumes nothing.
use Rattle.std.specs.Prelude.{◌≡◌, ℕ, zero, suc, ◌^◌, ◌<◌, ◌≤◌, Bool, true, false, ◌&&◌, List, [], ◌∷◌, ◌++◌, length, drop, ◌==◌, ◌≢◌, nat_le, nat_lt}
use Rattle.std.proofs.Math.Path.{refl, sym, ap}
use Rattle.std.proofs.Common.{◌∙◌, zero-add, le_of_suc-le-suc, not-suc-le-zero, arith, eqb-true, ltb-true, ltb-false, le-ltb, leb-true, leb-false}
use Rattle.std.proofs.Math.Bool.{and-false}
use mathlib.Core.List.{flatten}
use Rattle.std.proofs.lemmas.Bool.{eqb-false}
use Rattle.ground.specs.Machine.{run, gather}
use Rattle.ground.specs.laws.Machine.{run-append}
use Rattle.recording.specs.declared.event.Event.{Event}
use Rattle.recording.specs.declared.reading.Done.{Done}
use Rattle.recording.specs.Scan.{done, going, scan_one, scanned, checked, one_at, heard, read}
use Rattle.recording.specs.Event.{NO-ROOM}
use Rattle.recording.specs.Scan as whole
use Rattle.recording.specs.laws.Scan.{scan_on, scan-end, check_fault, check_full, check_all}
use Rattle.stream.specs.declared.Stream.{Stream}
use Rattle.stream.specs.Stream.{begun, took, gives, ended}
use Rattle.stream.specs.laws.Steps.{ended_good, ended_bad}
use Rattle.stream.specs.laws.Stands.{reached, reached_tag, Stands, after, Reads, reads}

-- the parts of a recording, one after the other
pub in_parts : (s : Stream) (parts : List (List ℕ)) → run (run took) s parts ≡ run took s (flatten parts)
unfolding run flatten
in_parts s [] = refl
in_parts s (p ∷ parts) = in_parts (run took s p) parts ∙ sym (run-append took s p (flatten parts))

module _ (bytes : List ℕ) where
  -- reading on that has stopped stays where it is
  stopped : (n m : ℕ) (d : Done) → n ≤ m → going bytes (scanned n bytes d) ≡ false → scanned m bytes d ≡ scanned n bytes d
  unfolding scanned
  stopped zero m d h e = scan-end bytes m d e
  stopped (suc n) zero d h e = absurd (not-suc-le-zero h)
  stopped (suc n) (suc m) d h e = go (going bytes d) refl (stopped n m (scan_one bytes d) (le_of_suc-le-suc h))
    where
      go : (t : Bool) → going bytes d ≡ t → (going bytes (scanned n bytes (scan_one bytes d)) ≡ false → scanned m bytes (scan_one bytes d) ≡ scanned n bytes (scan_one bytes d)) → scanned (suc m) bytes d ≡ scanned (suc n) bytes d
      go true t more = scan_on bytes m d t ∙ more (ap (λ (r : Done). going bytes r) (sym (scan_on bytes n d t)) ∙ e) ∙ sym (scan_on bytes n d t)
      go false t more = scan-end bytes (suc m) d t ∙ sym (scan-end bytes (suc n) d t)

  -- as many events as fields
  heard_length : (n at : ℕ) → length (heard n bytes at) ≡ n
  unfolding heard
  heard_length zero at = refl
  heard_length (suc n) at = ap suc (heard_length n (one_at bytes at).next)

  module _ (bound : length bytes < 2 ^ 64) where
    abbrev last : Stream
    last = run took begun bytes

    -- the fields before the first fault, or all
    abbrev fields : Done
    fields = scanned (length bytes) bytes whole.begun

    -- before the first byte, and from there to the end
    start : Stands bytes begun bytes 0 0
    start = after refl refl refl (omega arith) refl (omega arith) refl

    read_on_lem : (room : ℕ) → length bytes ≤ room → Reads bytes [] begun bytes 0 0 room
    read_on_lem room h = reads bytes bound bytes begun 0 0 room start (omega (arith, h))

    -- the fields come as far, and as many
    pub scan_whole : fields ≡ reached last
    scan_whole = (read_on_lem (length bytes) (omega arith)).scan

    -- what is at fault, and how many fields were whole
    code_is : fields.code ≡ last.code
    unfolding reached
    code_is = ap (λ (d : Done). d.code) scan_whole

    count_is : fields.count ≡ last.count
    unfolding reached
    count_is = ap (λ (d : Done). d.count) scan_whole

    -- the answer is the first fault, at the offset of its tag
    pub ended_fault : (fields.code ≢ 0) → ended last ≡ done fields.code fields.at 0
    ended_fault n =
        let x : last.code ≡ 0 → ⊥ = λ z. n (code_is ∙ z) in
        ended_bad last x ∙ sym (ap (λ (d : Done). done d.code d.at 0) (scan_whole ∙ reached_tag last x))

    -- or, where nothing is at fault, the number of the fields
    pub ended_all : fields.code ≡ 0 → ended last ≡ done 0 0 fields.count
    ended_all e = ended_good last (sym code_is ∙ e) ∙ ap (λ (j : ℕ). done 0 0 j) (sym count_is)

    -- a list that has room for the fields has all of them
    all_read : (room : ℕ) → length bytes ≤ (scanned room bytes whole.begun).at → fields ≡ scanned room bytes whole.begun
    all_read room h = go (nat_le room (length bytes)) refl
      where
        go : (t : Bool) → nat_le room (length bytes) ≡ t → fields ≡ scanned room bytes whole.begun
        go true t =
            stopped room (length bytes) whole.begun (leb-true room (length bytes) t) (ap (λ (b : Bool). ((scanned room bytes whole.begun).code == 0) && b) (le-ltb (scanned room bytes whole.begun).at (length bytes) h) ∙ and-false ((scanned room bytes whole.begun).code == 0))
        go false t = scan_whole ∙ sym (read_on_lem room (omega (arith, leb-false room (length bytes) t))).scan

    -- whatever list the reader is lent, it answers the same, unless it has no room
    pub ended_checked : (room : ℕ) → ((checked bytes room).code ≢ NO-ROOM) → ended last ≡ checked bytes room
    ended_checked room n = go (fields.code == 0) refl (nat_lt (scanned room bytes whole.begun).at (length bytes)) refl
      where
        go : (t : Bool) → (fields.code == 0) ≡ t → (u : Bool) → nat_lt (scanned room bytes whole.begun).at (length bytes) ≡ u → ended last ≡ checked bytes room
        go false t u v = let x = eqb-false fields.code 0 t in ended_fault x ∙ sym (check_fault bytes room x)
        go true t true v = absurd (n (ap (λ (d : Done). d.code) (check_full bytes room (eqb-true fields.code 0 t) (ltb-true (scanned room bytes whole.begun).at (length bytes) v))))
        go true t false v =
            let e = eqb-true fields.code 0 t in
            let h = ltb-false (scanned room bytes whole.begun).at (length bytes) v in
            ended_all e ∙ ap (λ (d : Done). done 0 0 d.count) (all_read room h) ∙ sym (check_all bytes room e h)

    -- the events given are those of the fields before the first fault
    pub given_heard : gather took gives begun bytes ≡ heard fields.count bytes 0
    given_heard =
        let r = read_on_lem (length bytes) (omega arith) in
        r.events ∙ ap (λ (j : ℕ). heard j bytes 0) (sym (count_is ∙ r.counts ∙ zero-add r.fields))

    -- so as many as the stream has counted
    pub given_count : length (gather took gives begun bytes) ≡ last.count
    given_count = ap length given_heard ∙ heard_length fields.count 0 ∙ count_is

    -- where the reader refuses nothing, nothing is at fault
    unrefused : (room : ℕ) → (checked bytes room).code ≡ 0 → fields.code ≡ 0
    unrefused room e = go (fields.code == 0) refl
      where
        go : (t : Bool) → (fields.code == 0) ≡ t → fields.code ≡ 0
        go true t = eqb-true fields.code 0 t
        go false t = sym (ap (λ (d : Done). d.code) (check_fault bytes room (eqb-false fields.code 0 t))) ∙ e

    -- and they are what it puts into the list, before the places that stay as they were
    pub given_read : (out : List Event) → (checked bytes (length out)).code ≡ 0 → (read bytes out).events ≡ gather took gives begun bytes ++ drop last.count out
    unfolding read
    given_read out e =
        let c : checked bytes (length out) ≡ done 0 0 fields.count = sym (ended_checked (length out) (λ z. omega (arith, e, z))) ∙ ended_all (unrefused (length out) e) in
        ap (λ (d : Done). heard d.count bytes 0 ++ drop d.count out) c ∙ ap (λ (es : List Event). es ++ drop fields.count out) (sym given_heard) ∙ ap (λ (j : ℕ). gather took gives begun bytes ++ drop j out) count_is
