-- Any two outcomes that the contracts of writing and reading allow are equal.
-- Not here: the contracts, in tape, src/writer.rt and src/reader.rt.
-- Assumes nothing.
use Rattle.std.specs.Prelude.{◌≡◌, ℕ, List}
use Rattle.std.proofs.Common.{sym, ◌∙◌, ap}
use Rattle.recording.specs.declared.event.Event.{Event}
use Rattle.recording.specs.declared.reading.Done.{Done}
use Rattle.recording.specs.Scan.{Reading, reading, read}
use Rattle.recording.specs.Pass.{Wrote, wrote, write}

-- of writing: the answer, and every byte of the list
pub write_one : (es : List Event) (d : List ℕ) (r s : Done) (xs ys : List ℕ) → wrote r xs ≡ write es d → wrote s ys ≡ write es d → (r ≡ s) × (xs ≡ ys)
write_one es d r s xs ys p q =
    let e : wrote r xs ≡ wrote s ys = p ∙ sym q in
    (ap (λ (w : Wrote). w.done) e, ap (λ (w : Wrote). w.bytes) e)

-- of reading: the answer, and every place of the list
pub read_one : (bytes : List ℕ) (d : List Event) (r s : Done) (xs ys : List Event) → reading r xs ≡ read bytes d → reading s ys ≡ read bytes d → (r ≡ s) × (xs ≡ ys)
read_one bytes d r s xs ys p q =
    let e : reading r xs ≡ reading s ys = p ∙ sym q in
    (ap (λ (g : Reading). g.done) e, ap (λ (g : Reading). g.events) e)
