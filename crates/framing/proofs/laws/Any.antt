-- What any list of cells gives (document 02, K3).
--   later_unread   two lists that agree up to the end of the first stop read alike: no later cell is looked at
--   read_below     a character that was read has no bit above its length
--   unmarked_iff   a list reads as a character without a mark exactly where the character's frame stands in it
-- Here, and not in specs/laws/Any, is what rests on other laws of specs/: an edit of a definition counts as refused where nothing in specs/ rests on the
-- law that it breaks.
-- Assumes nothing.
use Rattle.std.specs.Prelude.{◌≡◌, refl, Bool, true, false, List, ◌↔◌, ◌⊎◌, ℕ, suc, ◌+◌, ◌-◌, ◌*◌, ◌/◌, ◌%◌, ◌^◌, ◌<◌, ◌≤◌, eqb, length, get_or}
use Rattle.std.proofs.Common.{sym, ◌∙◌, subst, inl, inr, mod-eq_of_lt, arith, pow_pos}
use Rattle.std.proofs.Math.Path.{ap, subst⁻¹}
use Rattle.std.proofs.Math.Decide.{ℕ_discrete}
use Rattle.std.proofs.Math.Numerals.{add-one}
use borrow.Author.Tests.{eqb-true, eqb-false, not-false}
use Rattle.ground.specs.laws.Rows.{or-false}
use Rattle.framing.specs.declared.form.Form.{Form}
use Rattle.framing.specs.Form.{data_bits, has_parity, first_stop, frame_cells}
use Rattle.framing.specs.Cells.{space, mark, bit_at, limited, parity_bit, baud, frame_cell}
use Rattle.framing.specs.Read.{Frame, level, level_at, data_of, parity_mark, break_mark, read_code, frame_read, read_frame}
use Rattle.framing.specs.laws.Form.{first_stop_lem}
use Rattle.framing.specs.laws.Cells.{baud_start, first_half_lem, second_half}
use Rattle.framing.proofs.laws.Cells.{baud_data, baud_parity, baud_stop}
use Rattle.framing.specs.laws.Read.{data_below}
use Rattle.framing.proofs.laws.Read.{level_at_below}
use Rattle.framing.specs.laws.Data.{data_same, bit_read}
use Rattle.framing.specs.laws.Refusals.{framed, Framed, framed_iff, read-refused, read_taken}
use Rattle.framing.proofs.laws.Refusals.{read_good, read_bad, read_0}
use Rattle.framing.specs.laws.Frames.{heard, unmarked, data_or_parity}
use Rattle.framing.proofs.laws.Frames.{sounds_read, frame_sounds}
use Rattle.framing.specs.laws.Any.{Agree, Stands}

-- ---- cells after the first stop

agree_framed : (f : Form) (g h : ℕ → ℕ) → Agree f g h → Framed f g → Framed f h
agree_framed f g h e p =
    record {
      first = sym (e 0 (omega arith)) ∙ p.first;
      second = sym (e 1 (omega arith)) ∙ p.second;
      halves = λ j a b. sym (e (2 * j) (omega (arith, b))) ∙ p.halves j a b ∙ e (2 * j + 1) (omega (arith, b));
    }

agree_read : (f : Form) (g h : ℕ → ℕ) → Agree f g h → frame_read f g ≡ frame_read f h
unfolding frame_read parity_mark break_mark
agree_read f g h e =
    let d : data_of g (data_bits f) ≡ data_of h (data_bits f) = data_same g h (data_bits f) (λ k l. e (2 * suc k) (omega (arith, l, (first_stop_lem f).0))) in
    let p : g (2 * (data_bits f + 1)) ≡ h (2 * (data_bits f + 1)) = e (2 * (data_bits f + 1)) (omega (arith, (first_stop_lem f).0)) in
    let s : g (2 * first_stop f) ≡ h (2 * first_stop f) = e (2 * first_stop f) (omega arith) in
    let t : g (2 * first_stop f + 1) ≡ h (2 * first_stop f + 1) = e (2 * first_stop f + 1) (omega arith) in
    rw (d, p, s, t) refl

-- two lists as long as the frame, whose levels agree up to there, read alike, refusals included
pub later_unread : (f : Form) (a b : List ℕ) → frame_cells f ≤ length a → frame_cells f ≤ length b → Agree f (level_at a) (level_at b) → read_frame f a ≡ read_frame f b
later_unread f a b l m e = go (framed f a) refl (framed f b) refl
  where
    back : Agree f (level_at b) (level_at a)
    back i n = sym (e i n)

    go : (s : Bool) → framed f a ≡ s → (t : Bool) → framed f b ≡ t → read_frame f a ≡ read_frame f b
    go true p true q = read_good f a l p ∙ agree_read f (level_at a) (level_at b) e ∙ sym (read_good f b m q)
    go false p false q = read_bad f a l p ∙ sym (read_bad f b m q)
    go true p false q = cc ((framed_iff f b).1 (agree_framed f (level_at a) (level_at b) e ((framed_iff f a).0 p)))
    go false p true q = cc ((framed_iff f a).1 (agree_framed f (level_at b) (level_at a) back ((framed_iff f b).0 q)))

-- the same of lists whose cells agree
pub later_cells : (f : Form) (a b : List ℕ) → frame_cells f ≤ length a → frame_cells f ≤ length b → ((i : ℕ) → i < 2 * first_stop f + 2 → get_or a i 0 ≡ get_or b i 0) → read_frame f a ≡ read_frame f b
unfolding level_at
later_cells f a b l m e = later_unread f a b l m (λ i n. ap level (e i n))

-- ---- what is read

-- a character that was read has no bit above its length; beside a refusal it is 0
pub read_below : (f : Form) (cells : List ℕ) → (read_frame f cells).c < 2 ^ data_bits f
unfolding frame_read
read_below f cells = go (ℕ_discrete (read_code f cells) 0)
  where
    go : Dec (read_code f cells ≡ 0) → (read_frame f cells).c < 2 ^ data_bits f
    go (yes e) = rw (read_taken f cells e) (data_below (level_at cells) (level_at_below cells) (data_bits f))
    go (no n) = rw (read-refused f cells n) (pow_pos (data_bits f))

-- where it does it is read, without a mark
stands_read : (f : Form) (c : ℕ) (cells : List ℕ) → Stands f c cells → read_frame f cells ≡ heard f c false false
unfolding limited
stands_read f c cells s =
    sounds_read f c (parity_bit f c) mark mark cells s.long (frame_sounds f c (level_at cells) s.levels)
    ∙ rw (unmarked (has_parity f) (parity_bit f c), mod-eq_of_lt s.short) refl

-- a cell is one of the two of its baud
halved : (g h : ℕ → ℕ) (n : ℕ) → ((j : ℕ) → j ≤ n → (g (2 * j) ≡ h (2 * j)) × (g (2 * j + 1) ≡ h (2 * j + 1))) → (i : ℕ) → i < 2 * n + 2 → g i ≡ h i
halved g h n e i l = go (ℕ_discrete (i % 2) 0)
  where
    go : Dec (i % 2 ≡ 0) → g i ≡ h i
    go (yes z) = let q : i ≡ 2 * (i / 2) = omega (arith, z) in subst⁻¹ (λ (x : ℕ). g x ≡ h x) q (e (i / 2) (omega (arith, l))).0
    go (no z) = let q : i ≡ 2 * (i / 2) + 1 = omega (arith, z) in subst⁻¹ (λ (x : ℕ). g x ≡ h x) q (e (i / 2) (omega (arith, l))).1

module _ (f : Form) (c : ℕ) (cells : List ℕ) (e : read_frame f cells ≡ heard f c false false) where
  abbrev g : ℕ → ℕ
  g = level_at cells

  below : (i : ℕ) → g i < 2
  below = level_at_below cells

  took : (frame_cells f ≤ length cells) × (framed f cells ≡ true)
  took = (read_0 f cells).0 (ap (λ (r : Frame). r.code) e)

  stood : Framed f g
  stood = (framed_iff f cells).0 took.1

  gave : frame_read f g ≡ heard f c false false
  gave = sym (read_good f cells took.0 took.1) ∙ e

  gave_data : data_of g (data_bits f) ≡ c
  unfolding frame_read
  gave_data = ap (λ (r : Frame). r.c) gave

  gave_parity : parity_mark f g c ≡ false
  unfolding frame_read
  gave_parity = ap (parity_mark f g) (sym gave_data) ∙ ap (λ (r : Frame). r.parity) gave

  gave_stop : (eqb (g (2 * first_stop f)) space ≡ false) × (eqb (g (2 * first_stop f + 1)) space ≡ false)
  unfolding frame_read break_mark
  gave_stop = or-false _ _ (ap (λ (r : Frame). r.brk) gave)

  -- a level that is no space
  marked : (i : ℕ) → eqb (g i) space ≡ false → g i ≡ mark
  marked i n = let z = eqb-false (g i) space n in go (ℕ_discrete (g i) 0) z
    where
      go : Dec (g i ≡ 0) → (g i ≡ 0 → ⊥) → g i ≡ mark
      go (yes q) z = absurd (z q)
      go (no q) z = omega (arith, q, below i)

  -- the parity bit that was not marked
  agreed : has_parity f ≡ true → g (2 * suc (data_bits f)) ≡ parity_bit f c
  unfolding parity_mark
  agreed p = eqb-true _ _ (not-false _ (rw (p, add-one (data_bits f)) at gave_parity))

  bauds : (j : ℕ) → j ≤ first_stop f → (g (2 * j) ≡ baud f c j) × (g (2 * j + 1) ≡ baud f c j)
  bauds j l = go (ℕ_discrete j 0) (ℕ_discrete j (first_stop f))
    where
      inner : 0 < j → j < first_stop f → ((j - 1 < data_bits f) × (j ≡ suc (j - 1))) ⊎ ((has_parity f ≡ true) × (j ≡ suc (data_bits f))) → g (2 * j) ≡ baud f c j
      inner a b (inl p) =
          ap (λ (x : ℕ). g (2 * x)) p.1
          ∙ sym (bit_read g below (data_bits f) (j - 1) p.0)
          ∙ ap (λ (x : ℕ). bit_at x (j - 1)) gave_data
          ∙ sym (baud_data f c j a (omega (arith, p.0, p.1)))
      inner a b (inr p) = ap (λ (x : ℕ). g (2 * x)) p.1 ∙ agreed p.0 ∙ sym (baud_parity f c j (omega (arith, p.1)) b)

      go : Dec (j ≡ 0) → Dec (j ≡ first_stop f) → (g (2 * j) ≡ baud f c j) × (g (2 * j + 1) ≡ baud f c j)
      go (yes z) n = rw z (stood.first ∙ sym (baud_start f c), stood.second ∙ sym (baud_start f c))
      go (no z) (yes s) =
          let m = baud_stop f c (first_stop f) (omega arith) in
          rw s (marked (2 * first_stop f) gave_stop.0 ∙ sym m, marked (2 * first_stop f + 1) gave_stop.1 ∙ sym m)
      go (no z) (no s) =
          let a : 0 < j = omega (arith, z) in
          let b : j < first_stop f = omega (arith, l, s) in
          let r = inner a b (data_or_parity f j a b) in
          (r, sym (stood.halves j a b) ∙ r)

  read_stands : Stands f c cells
  read_stands =
      record {
        long = took.0;
        short = subst (λ (x : ℕ). x < 2 ^ data_bits f) gave_data (data_below g below (data_bits f));
        levels = halved g (frame_cell f c) (first_stop f) (λ j l. let r = bauds j l in (r.0 ∙ sym (first_half_lem f c j), r.1 ∙ sym (second_half f c j)));
      }

-- a list reads as a character without a mark exactly where the character's frame stands in it
pub unmarked_iff : (f : Form) (c : ℕ) (cells : List ℕ) → (read_frame f cells ≡ heard f c false false) ↔ Stands f c cells
unmarked_iff f c cells = (read_stands f c cells, stands_read f c cells)
