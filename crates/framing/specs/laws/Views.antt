-- What the code answers is settled by what the definitions say of it: two answers that look the same are the same.
--   number_one                 of refusals
--   written_one, frame_one     of what writing and reading answer
--   write_one_made, read_one_made   any two answers of the code to one writing, and to one reading, are equal
-- Not here: the views themselves, in specs/Refusal, specs/Write and specs/Read.
-- Assumes nothing.
use Rattle.std.specs.Prelude.{◌≡◌, refl, List, ℕ, eqb, Result, Ok, Err}
use Rattle.std.proofs.Common.{ap, sym, ◌∙◌}
use Rattle.ground.specs.Choose.{pick}
use Rattle.framing.specs.declared.read.Frame.{Frame as Taken}
use Rattle.framing.specs.declared.refusal.Refusal.{Refusal}
use Rattle.framing.specs.declared.refusal.Refusal.TheVariants.{NoRoom, TooShort, NoFrame}
use Rattle.framing.specs.Refusal.{number_of}
use Rattle.framing.specs.declared.form.Form.{Form}
use Rattle.framing.specs.Read.{Frame, frame_of, looked, read_frame}
use Rattle.framing.specs.Write.{Written, written_of, wrote, write_frame}
use Rattle.framing.specs.laws.Outcomes.{write_one, read_one}

-- ---- each view has a way back

-- the refusal of a number
unfoldable pub refusal_of : ℕ → Refusal
refusal_of k = pick (eqb k 18) NoRoom (pick (eqb k 19) TooShort NoFrame)

pub number_back : (r : Refusal) → refusal_of (number_of r) ≡ r
unfolding refusal_of pick
number_back NoRoom = refl
number_back TooShort = refl
number_back NoFrame = refl

-- two refusals of one number are one
pub number_one : (r s : Refusal) → number_of r ≡ number_of s → r ≡ s
number_one r s e = sym (number_back r) ∙ ap refusal_of e ∙ number_back s

-- what writing answered, of a record of the definitions
unfoldable pub written_made : Written → Result ℕ Refusal
written_made w = pick (eqb w.code 0) (Ok w.used) (Err (refusal_of w.code))

pub written_back : (r : Result ℕ Refusal) → written_made (written_of r) ≡ r
unfolding written_made refusal_of pick
written_back (Ok n) = refl
written_back (Err NoRoom) = refl
written_back (Err TooShort) = refl
written_back (Err NoFrame) = refl

-- two answers of writing that look the same are one
pub written_one : (r s : Result ℕ Refusal) → written_of r ≡ written_of s → r ≡ s
written_one r s h = sym (written_back r) ∙ ap written_made h ∙ written_back s

-- what reading answered, of a record of the definitions
unfoldable pub frame_made : Frame → Result Taken Refusal
frame_made f = pick (eqb f.code 0) (Ok (record { c = f.c; parity = f.parity; brk = f.brk; used = f.used })) (Err (refusal_of f.code))

pub frame_back : (r : Result Taken Refusal) → frame_made (frame_of r) ≡ r
unfolding frame_made refusal_of pick
frame_back (Ok x) = refl
frame_back (Err NoRoom) = refl
frame_back (Err TooShort) = refl
frame_back (Err NoFrame) = refl

-- two answers of reading that look the same are one
pub frame_one : (r s : Result Taken Refusal) → frame_of r ≡ frame_of s → r ≡ s
frame_one r s h = sym (frame_back r) ∙ ap frame_made h ∙ frame_back s

-- ---- and what the code answered to one call is one

pub write_one_made : (f : Form) (c : ℕ) (d : List ℕ) (r s : Result ℕ Refusal) (xs ys : List ℕ) → wrote (written_of r) xs ≡ write_frame f c d → wrote (written_of s) ys ≡ write_frame f c d → (r ≡ s) × (xs ≡ ys)
write_one_made f c d r s xs ys p q =
    let one = write_one f c d (written_of r) (written_of s) xs ys p q in
    (written_one r s one.0, one.1)

pub read_one_made : (f : Form) (d : List ℕ) (r s : Result Taken Refusal) (xs ys : List ℕ) → looked (frame_of r) xs ≡ looked (read_frame f d) d → looked (frame_of s) ys ≡ looked (read_frame f d) d → r ≡ s
read_one_made f d r s xs ys p q = frame_one r s (read_one f d (frame_of r) (frame_of s) xs ys p q).0
