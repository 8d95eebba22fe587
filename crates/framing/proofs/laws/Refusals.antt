-- When writing and reading are refused, and what each then gives.
--   read_short, read_bad, read_good   19, 20, and what was read
--   read_19, read_20, read_0          each number exactly when
-- Here, and not in specs/laws/Refusals, is what rests on other laws of specs/: an edit of a definition counts as refused where nothing in specs/ rests on the
-- law that it breaks.
-- Assumes nothing.
use Rattle.std.specs.Prelude.{◌≡◌, refl, Bool, true, false, List, ◌↔◌, ◌⊎◌, ℕ, ◌<◌, ◌≤◌, length}
use Rattle.std.proofs.Common.{inl, inr, arith}
use Rattle.ground.specs.Choose.{pick}
use Rattle.framing.specs.declared.form.Form.{Form}
use Rattle.framing.specs.Form.{frame_cells}
use Rattle.framing.specs.Read.{level_at, read_code, frame_read, unread, read_frame, TOO-SHORT, NO-FRAME}
use Rattle.framing.specs.laws.Refusals.{short_or_fits, framed, code_19, code_20, code_0}

-- ---- reading

-- too short a list: 19, whatever stands in it
pub read_short : (f : Form) (cells : List ℕ) → length cells < frame_cells f → read_frame f cells ≡ unread TOO-SHORT
unfolding read_frame pick
read_short f cells h = rw (code_19 f cells h) refl

-- no frame: 20
pub read_bad : (f : Form) (cells : List ℕ) → frame_cells f ≤ length cells → framed f cells ≡ false → read_frame f cells ≡ unread NO-FRAME
unfolding read_frame pick
read_bad f cells h e = rw (code_20 f cells h e) refl

-- any other: what its levels give
pub read_good : (f : Form) (cells : List ℕ) → frame_cells f ≤ length cells → framed f cells ≡ true → read_frame f cells ≡ frame_read f (level_at cells)
unfolding read_frame pick
read_good f cells h e = rw (code_0 f cells h e) refl

pub taken_fits : (f : Form) (cells : List ℕ) → read_code f cells ≡ 0 → frame_cells f ≤ length cells
taken_fits f cells e = go (short_or_fits f cells)
  where
    go : (length cells < frame_cells f) ⊎ (frame_cells f ≤ length cells) → frame_cells f ≤ length cells
    go (inl h) = absurd (omega (arith, e, code_19 f cells h))
    go (inr h) = h

-- which of the three it is, and its number
abbrev Case : Form → List ℕ → Type 0
Case f cells =
    ((length cells < frame_cells f) × ((read_frame f cells).code ≡ TOO-SHORT))
    ⊎ ((frame_cells f ≤ length cells) × (framed f cells ≡ false) × ((read_frame f cells).code ≡ NO-FRAME))
    ⊎ ((frame_cells f ≤ length cells) × (framed f cells ≡ true) × ((read_frame f cells).code ≡ 0))

given : (f : Form) (cells : List ℕ) → Case f cells
unfolding frame_read
given f cells = go (short_or_fits f cells) (framed f cells) refl
  where
    go : (length cells < frame_cells f) ⊎ (frame_cells f ≤ length cells) → (t : Bool) → framed f cells ≡ t → Case f cells
    go (inl h) t e = inl (h, rw (read_short f cells h) refl)
    go (inr h) false e = inr (inl (h, e, rw (read_bad f cells h e) refl))
    go (inr h) true e = inr (inr (h, e, rw (read_good f cells h e) refl))

-- 19 exactly when the list is shorter than the whole frame
pub read_19 : (f : Form) (cells : List ℕ) → ((read_frame f cells).code ≡ TOO-SHORT) ↔ (length cells < frame_cells f)
read_19 f cells = (λ e. go e (given f cells), λ h. rw (read_short f cells h) refl)
  where
    go : (read_frame f cells).code ≡ TOO-SHORT → Case f cells → length cells < frame_cells f
    go e (inl h) = h.0
    go e (inr (inl h)) = absurd (omega (arith, e, h.2))
    go e (inr (inr h)) = absurd (omega (arith, e, h.2))

-- 20 exactly when it is long enough and no frame stands in it
pub read_20 : (f : Form) (cells : List ℕ) → ((read_frame f cells).code ≡ NO-FRAME) ↔ ((frame_cells f ≤ length cells) × (framed f cells ≡ false))
read_20 f cells = (λ e. go e (given f cells), λ h. rw (read_bad f cells h.0 h.1) refl)
  where
    go : (read_frame f cells).code ≡ NO-FRAME → Case f cells → (frame_cells f ≤ length cells) × (framed f cells ≡ false)
    go e (inl h) = absurd (omega (arith, e, h.1))
    go e (inr (inl h)) = (h.0, h.1)
    go e (inr (inr h)) = absurd (omega (arith, e, h.2))

-- 0, and what was read, exactly when one stands in it
pub read_0 : (f : Form) (cells : List ℕ) → ((read_frame f cells).code ≡ 0) ↔ ((frame_cells f ≤ length cells) × (framed f cells ≡ true))
unfolding frame_read
read_0 f cells = (λ e. go e (given f cells), λ h. rw (read_good f cells h.0 h.1) refl)
  where
    go : (read_frame f cells).code ≡ 0 → Case f cells → (frame_cells f ≤ length cells) × (framed f cells ≡ true)
    go e (inl h) = absurd (omega (arith, e, h.1))
    go e (inr (inl h)) = absurd (omega (arith, e, h.2))
    go e (inr (inr h)) = (h.0, h.1)
