-- Events put into a list one after the other, as reading does it.
--   fill, fill_none, fill_more   so many events put from a place on, read from an offset on
--   fill_is, read_filled         what the list holds then, and the call
-- Not here: which events, in Scan.
-- Assumes nothing.
use Rattle.std.specs.Prelude.{◌≡◌, ℕ, zero, suc, ◌+◌, ◌≤◌, List, [], ◌∷◌, ◌++◌, length, take, drop, slice_set, refl}
use Rattle.std.proofs.Common.{sym, ◌∙◌, ap, append_assoc, add-zero, add-one, arith, length-set, take-append-drop, take-suc-set, drop-set-lt}
use Rattle.recording.specs.declared.event.Event.{Event}
use Rattle.recording.specs.Scan.{checked, one_at, heard, reading, read}

unfoldable pub fill : ℕ → ℕ → ℕ → List ℕ → List Event → List Event
fill zero i at bytes out = out
fill (suc k) i at bytes out = fill k (i + 1) (one_at bytes at).next bytes (slice_set out i (one_at bytes at).event)

pub fill_none : (i at : ℕ) (bytes : List ℕ) (out : List Event) → fill 0 i at bytes out ≡ out
unfolding fill
fill_none i at bytes out = refl

pub fill_more : (k i at : ℕ) (bytes : List ℕ) (out : List Event) → fill (suc k) i at bytes out ≡ fill k (i + 1) (one_at bytes at).next bytes (slice_set out i (one_at bytes at).event)
unfolding fill
fill_more k i at bytes out = refl

pub fill_is : (k i at : ℕ) (bytes : List ℕ) (out : List Event) → i + k ≤ length out → fill k i at bytes out ≡ take i out ++ (heard k bytes at ++ drop (i + k) out)
unfolding fill heard
fill_is zero i at bytes out h = sym (ap (λ (n : ℕ). take i out ++ drop n out) (add-zero i) ∙ take-append-drop i out)
fill_is (suc k) i at bytes out h =
    let e = (one_at bytes at).event in
    let later = heard k bytes (one_at bytes at).next in
    let on : i + 1 + k ≡ i + suc k = omega arith in
    fill_is k (i + 1) (one_at bytes at).next bytes (slice_set out i e) (omega (arith, h, length-set out i e))
    ∙ ap (λ (zs : List Event). zs ++ (later ++ drop (i + 1 + k) (slice_set out i e))) (ap (λ (n : ℕ). take n (slice_set out i e)) (add-one i) ∙ take-suc-set out i e (omega (arith, h)))
    ∙ ap (λ (zs : List Event). (take i out ++ (e ∷ [])) ++ (later ++ zs)) (drop-set-lt (i + 1 + k) out i e (omega arith) ∙ ap (λ (n : ℕ). drop n out) on)
    ∙ append_assoc (take i out) (e ∷ []) (later ++ drop (i + suc k) out)

pub read_filled : (bytes : List ℕ) (out : List Event) → (checked bytes (length out)).count ≤ length out → reading (checked bytes (length out)) (fill (checked bytes (length out)).count 0 0 bytes out) ≡ read bytes out
unfolding read
read_filled bytes out h =
    let k = (checked bytes (length out)).count in
    let far : 0 + k ≡ k = omega arith in
    ap (λ (zs : List Event). reading (checked bytes (length out)) zs) (fill_is k 0 0 bytes out (omega (arith, h)) ∙ ap (λ (n : ℕ). heard k bytes 0 ++ drop n out) far)
