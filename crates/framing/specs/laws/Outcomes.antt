-- Any two outcomes that a contract of framing allows are equal.
-- Not here: the contracts, in src/write.rt and src/read.rt.
-- Assumes nothing.
use Rattle.std.specs.Prelude.{◌≡◌, List, ℕ}
use Rattle.std.proofs.Common.{sym, ◌∙◌, ap}
use Rattle.framing.specs.declared.form.Form.{Form}
use Rattle.framing.specs.Write.{Written, Wrote, wrote, write_frame}
use Rattle.framing.specs.Read.{Frame, Looked, looked, read_frame}

-- of writing: the answer, and every cell of the list
pub write_one : (f : Form) (c : ℕ) (d : List ℕ) (r s : Written) (xs ys : List ℕ) → wrote r xs ≡ write_frame f c d → wrote s ys ≡ write_frame f c d → (r ≡ s) × (xs ≡ ys)
write_one f c d r s xs ys p q =
    let e : wrote r xs ≡ wrote s ys = p ∙ sym q in
    (ap (λ (w : Wrote). w.answer) e, ap (λ (w : Wrote). w.cells) e)

-- of reading: the answer, and the list, which is as it was
pub read_one : (f : Form) (d : List ℕ) (r s : Frame) (xs ys : List ℕ) → looked r xs ≡ looked (read_frame f d) d → looked s ys ≡ looked (read_frame f d) d → (r ≡ s) × ((xs ≡ d) × (ys ≡ d))
read_one f d r s xs ys p q = (ap (λ (w : Looked). w.answer) (p ∙ sym q), (ap (λ (w : Looked). w.cells) p, ap (λ (w : Looked). w.cells) q))
