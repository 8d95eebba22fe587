-- When writing and reading are refused, and what each then gives.
--   write_short, write_fits           18 and nothing written; the frame
--   write_18                          18 exactly when the list is too short
--   framed, framed_iff                what 20 tests, in levels
-- In proofs/laws/Refusals, since they rest on these: read_short, read_bad, read_good, taken_fits, read_19, read_20, read_0.
-- Not here: the definitions, in specs/Write and specs/Read.
-- Assumes nothing.
use Rattle.std.specs.Prelude.{◌≡◌, refl, Bool, true, false, not, ◌&&◌, List, ◌↔◌, ◌⊎◌, ℕ, ◌+◌, ◌-◌, ◌*◌, ◌<◌, ◌≤◌, ltb, length}
use Rattle.std.proofs.Common.{◌∙◌, ap, inl, inr, arith, lt-ltb, le-ltb, ltb-true, ltb-false, eq-eqb, ne_eqb, eqb-true}
use Rattle.ground.specs.Choose.{pick, first_of}
use Rattle.ground.specs.laws.Arrays.{tab_to}
use Rattle.ground.specs.laws.Rows.{pick_true, pick-false, and-true}
use Rattle.framing.specs.declared.form.Form.{Form}
use Rattle.framing.specs.Form.{first_stop, frame_cells}
use Rattle.framing.specs.Cells.{space, frame_cell}
use Rattle.framing.specs.Write.{wrote, write_code, write_frame, NO-ROOM}
use Rattle.framing.specs.Read.{level_at, starts_well, whole_to, read_code, frame_read, unread, read_frame, TOO-SHORT, NO-FRAME}
use Rattle.framing.specs.laws.Form.{first_stop_lem}
use Rattle.framing.specs.laws.Read.{whole_all, whole_each}

-- a list is too short for the frame, or holds it
pub short_or_fits : (f : Form) (cells : List ℕ) → (length cells < frame_cells f) ⊎ (frame_cells f ≤ length cells)
short_or_fits f cells = go (ltb (length cells) (frame_cells f)) refl
  where
    go : (t : Bool) → ltb (length cells) (frame_cells f) ≡ t → (length cells < frame_cells f) ⊎ (frame_cells f ≤ length cells)
    go true e = inl (ltb-true _ _ e)
    go false e = inr (ltb-false _ _ e)

-- ---- writing

pub code_18 : (f : Form) (cells : List ℕ) → length cells < frame_cells f → write_code f cells ≡ NO-ROOM
unfolding write_code first_of
code_18 f cells h = pick_true (ltb (length cells) (frame_cells f)) NO-ROOM 0 (lt-ltb (length cells) (frame_cells f) h)

pub code_fits : (f : Form) (cells : List ℕ) → frame_cells f ≤ length cells → write_code f cells ≡ 0
unfolding write_code first_of
code_fits f cells h = pick-false _ _ _ (le-ltb (length cells) (frame_cells f) h)

-- too short a list: 18, no cell counted, and the list as it was
pub write_short : (f : Form) (c : ℕ) (cells : List ℕ) → length cells < frame_cells f → write_frame f c cells ≡ wrote (record { code = NO-ROOM; used = 0 }) cells
unfolding write_frame pick
write_short f c cells h = rw (code_18 f cells h) refl

-- any other: the frame in its first cells, and those past it as they were
pub write_fits : (f : Form) (c : ℕ) (cells : List ℕ) → frame_cells f ≤ length cells → write_frame f c cells ≡ wrote (record { code = 0; used = frame_cells f }) (tab_to (frame_cells f) (frame_cell f c) cells)
unfolding write_frame pick
write_fits f c cells h = rw (code_fits f cells h) refl

-- 18 exactly when the list is shorter than the whole frame
pub write_18 : (f : Form) (c : ℕ) (cells : List ℕ) → ((write_frame f c cells).answer.code ≡ NO-ROOM) ↔ (length cells < frame_cells f)
write_18 f c cells = (λ e. go e (short_or_fits f cells), λ h. rw (write_short f c cells h) refl)
  where
    go : (write_frame f c cells).answer.code ≡ NO-ROOM → (length cells < frame_cells f) ⊎ (frame_cells f ≤ length cells) → length cells < frame_cells f
    go e (inl h) = h
    go e (inr h) = let d : 0 ≡ NO-ROOM = rw (write_fits f c cells h) at e in absurd (omega (arith, d))

-- ---- reading

-- the start and the bauds up to the first stop are as a frame's are
abbrev pub framed : Form → List ℕ → Bool
framed f cells = starts_well (level_at cells) && whole_to (level_at cells) (first_stop f - 1)

-- in levels: two spaces at the start, and one level in both halves of each baud up to the first stop
pub record Framed (f : Form) (g : ℕ → ℕ) : Type 0 where
  pub first : g 0 ≡ space
  pub second : g 1 ≡ space
  pub halves : (j : ℕ) → 0 < j → j < first_stop f → g (2 * j) ≡ g (2 * j + 1)

pub framed_iff : (f : Form) (cells : List ℕ) → (framed f cells ≡ true) ↔ Framed f (level_at cells)
unfolding starts_well
framed_iff f cells = (to, from)
  where
    to : framed f cells ≡ true → Framed f (level_at cells)
    to e =
        let p = and-true _ _ e in
        let q = and-true _ _ p.0 in
        record {
          first = eqb-true _ _ q.0;
          second = eqb-true _ _ q.1;
          halves = λ j a b. whole_each (level_at cells) (first_stop f - 1) p.1 j a (omega (arith, b));
        }

    from : Framed f (level_at cells) → framed f cells ≡ true
    from h =
        rw (
          eq-eqb _ _ h.first,
          eq-eqb _ _ h.second,
          whole_all (level_at cells) (first_stop f - 1) (λ j a b. h.halves j a (omega (arith, a, b, (first_stop_lem f).0))),
        )
        refl

pub code_19 : (f : Form) (cells : List ℕ) → length cells < frame_cells f → read_code f cells ≡ TOO-SHORT
unfolding read_code first_of
code_19 f cells h = pick_true (ltb (length cells) (frame_cells f)) TOO-SHORT (pick (not (framed f cells)) NO-FRAME 0) (lt-ltb (length cells) (frame_cells f) h)

pub code_20 : (f : Form) (cells : List ℕ) → frame_cells f ≤ length cells → framed f cells ≡ false → read_code f cells ≡ NO-FRAME
unfolding read_code first_of
code_20 f cells h e = pick-false _ _ _ (le-ltb (length cells) (frame_cells f) h) ∙ pick_true _ _ _ (ap not e)

pub code_0 : (f : Form) (cells : List ℕ) → frame_cells f ≤ length cells → framed f cells ≡ true → read_code f cells ≡ 0
unfolding read_code first_of
code_0 f cells h e = pick-false _ _ _ (le-ltb (length cells) (frame_cells f) h) ∙ pick-false _ _ _ (ap not e)

-- a number that is not 0 is given alone; and without one there is room for a frame
pub read-refused : (f : Form) (cells : List ℕ) → (read_code f cells ≡ 0 → ⊥) → read_frame f cells ≡ unread (read_code f cells)
unfolding read_frame
read-refused f cells h = pick-false _ _ _ (ne_eqb (read_code f cells) 0 h)

pub read_taken : (f : Form) (cells : List ℕ) → read_code f cells ≡ 0 → read_frame f cells ≡ frame_read f (level_at cells)
unfolding read_frame
read_taken f cells e = pick_true _ _ _ (eq-eqb (read_code f cells) 0 e)
