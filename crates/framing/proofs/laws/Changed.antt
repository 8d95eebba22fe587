-- What is read of a frame that was changed on the way (document 02, K3).
--   any_break       any two cells in the first stop: a space in either gives the break mark, and nothing else does (broken_stop)
--   any_marks       any two cells of one level in the parity bit, and any two in the first stop: wrong_parity, both_marks
--   ChangedBit, changed_bit   a data bit the other way
-- Here, and not in specs/laws/Changed, is what rests on other laws of specs/: an edit of a definition counts as refused where nothing in specs/ rests on the
-- law that it breaks.
-- Assumes nothing.
use Rattle.std.specs.Prelude.{◌≡◌, refl, Bool, true, false, not, ◌&&◌, ◌||◌, List, ◌⊎◌, eqb, length}
use Rattle.std.proofs.Common.{sym, ◌∙◌, inl, inr, add-one, arith, eq-eqb, ne_eqb}
use Rattle.std.proofs.Math.Path.{ap}
use Rattle.std.proofs.Math.Bool.{and-true, or-true}
use Prim.Native.Nat.{ℕ, suc, ◌+◌, ◌-◌, ◌*◌, ◌%◌, ◌^◌, ◌<◌, ◌≤◌}
use Rattle.std.proofs.Math.Nat.{mod-eq_of_lt}
use Rattle.std.proofs.Math.Decide.{ℕ_discrete}
use Rattle.std.specs.Int.Count.{ones}
use Rattle.framing.specs.declared.form.Form.{Form}
use Rattle.framing.specs.Form.{data_bits, has_parity, first_stop, frame_cells}
use Rattle.framing.specs.Cells.{space, mark, bit_at, limited, sense, parity_bit}
use Rattle.framing.specs.Write.{write_frame}
use Rattle.framing.specs.Read.{level, level_at, data_of, read_frame}
use Rattle.framing.specs.laws.Form.{first_stop_lem}
use Rattle.framing.specs.laws.Cells.{parity_below, bit_at_below}
use Rattle.framing.specs.laws.Read.{data_below}
use Rattle.framing.proofs.laws.Read.{level_at_below}
use Rattle.framing.specs.laws.Data.{bit_read, count_of, ones_data, count_but_one}
use Rattle.framing.specs.laws.Levels.{with_baud}
use Rattle.framing.specs.laws.Frames.{heard, Sounds, sounds_data, unmarked}
use Rattle.framing.proofs.laws.Frames.{sounds_read, written, written_fits, written_sounds}
use Rattle.framing.specs.laws.Changed.{other, here, stop_changed, parity_changed, changed_fits, ChangedBit}

-- ---- the parity bit and the first stop of a written frame

either_space : (x y : ℕ) → (x ≡ space) ⊎ (y ≡ space) → (eqb x space || eqb y space) ≡ true
either_space x y (inl e) = rw (eq-eqb x space e) refl
either_space x y (inr e) = rw (eq-eqb y space e) (or-true (eqb x space))

-- the other level is not the level itself
other_way : (x y : ℕ) → y < 2 → x ≡ 1 - y → eqb x y ≡ false
other_way x y l e = ne_eqb x y (λ i. omega (arith, l, e, i))

module _ (f : Form) (c : ℕ) (d : List ℕ) (fits : frame_cells f ≤ length d) where
  -- any two cells in the first stop
  pub any_break : (v w : ℕ) → read_frame f (with_baud (write_frame f c d).cells (first_stop f) v w) ≡ heard f (limited f c) false (eqb (level v) space || eqb (level w) space)
  any_break v w =
      let l = written_fits f c d fits in
      let h = written_sounds f c d fits in
      sounds_read f c (parity_bit f c) (level v) (level w) (with_baud (written f c d fits) (first_stop f) v w)
      (changed_fits f c (parity_bit f c) mark mark (written f c d fits) l h (first_stop f) v w)
      (stop_changed f c (parity_bit f c) mark mark (written f c d fits) l h v w)
      ∙ ap (λ (p : Bool). heard f (limited f c) p (eqb (level v) space || eqb (level w) space)) (unmarked (has_parity f) (parity_bit f c))

  -- a space in either half: exactly the break mark
  pub broken_stop : (v w : ℕ) → (level v ≡ space) ⊎ (level w ≡ space) → read_frame f (with_baud (write_frame f c d).cells (first_stop f) v w) ≡ heard f (limited f c) false true
  broken_stop v w e = any_break v w ∙ ap (heard f (limited f c) false) (either_space (level v) (level w) e)

  -- any two cells of one level in the parity bit, and any two in the first stop
  pub any_marks : has_parity f ≡ true → (v w x y : ℕ) → level v ≡ level w → read_frame f (with_baud (with_baud (write_frame f c d).cells (data_bits f + 1) v w) (first_stop f) x y) ≡ heard f (limited f c) (not (eqb (level v) (parity_bit f c))) (eqb (level x) space || eqb (level y) space)
  any_marks p v w x y e =
      let l = written_fits f c d fits in
      let h = written_sounds f c d fits in
      let cells = with_baud (written f c d fits) (suc (data_bits f)) v w in
      let l2 = changed_fits f c (parity_bit f c) mark mark (written f c d fits) l h (suc (data_bits f)) v w in
      let h2 = parity_changed f c (parity_bit f c) mark mark (written f c d fits) l h p v w e in
      rw (add-one (data_bits f))
      (sounds_read f c (level v) (level x) (level y) (with_baud cells (first_stop f) x y)
      (changed_fits f c (level v) mark mark cells l2 h2 (first_stop f) x y)
      (stop_changed f c (level v) mark mark cells l2 h2 x y))
      ∙ ap (λ (t : Bool). heard f (limited f c) (t && not (eqb (level v) (parity_bit f c))) (eqb (level x) space || eqb (level y) space)) p

  -- both halves of the parity bit the other way, and nothing else: exactly the parity mark
  pub wrong_parity : has_parity f ≡ true → (v w : ℕ) → level v ≡ 1 - parity_bit f c → level w ≡ 1 - parity_bit f c → read_frame f (with_baud (write_frame f c d).cells (data_bits f + 1) v w) ≡ heard f (limited f c) true false
  wrong_parity p v w a b =
      let l = written_fits f c d fits in
      let h = written_sounds f c d fits in
      let cells = with_baud (written f c d fits) (suc (data_bits f)) v w in
      rw (add-one (data_bits f))
      (sounds_read f c (level v) mark mark cells
      (changed_fits f c (parity_bit f c) mark mark (written f c d fits) l h (suc (data_bits f)) v w)
      (parity_changed f c (parity_bit f c) mark mark (written f c d fits) l h p v w (a ∙ sym b))
      ∙ rw (p, other_way (level v) (parity_bit f c) (parity_below f c) a) refl)

  -- both together: both
  pub both_marks : has_parity f ≡ true → (v w x y : ℕ) → level v ≡ 1 - parity_bit f c → level w ≡ 1 - parity_bit f c → (level x ≡ space) ⊎ (level y ≡ space) → read_frame f (with_baud (with_baud (write_frame f c d).cells (data_bits f + 1) v w) (first_stop f) x y) ≡ heard f (limited f c) true true
  both_marks p v w x y a b e =
      any_marks p v w x y (a ∙ sym b)
      ∙ rw (other_way (level v) (parity_bit f c) (parity_below f c) a, either_space (level x) (level y) e) refl

-- ---- a data bit of a written frame

-- one more or one fewer
odd_ones : (x y s a b : ℕ) → b < 2 → a ≡ 1 - b → y + b ≡ x + a → eqb ((x + s) % 2) ((y + s) % 2) ≡ false
odd_ones x y s a b l e q = ne_eqb ((x + s) % 2) ((y + s) % 2) (λ i. omega (arith, l, e, q, i))

module _ (f : Form) (c : ℕ) (d : List ℕ) (fits : frame_cells f ≤ length d) (k : ℕ) (inside : k < data_bits f) (v w : ℕ) (a : level v ≡ 1 - bit_at c k) (b : level w ≡ 1 - bit_at c k) where
  -- the levels as they were written, and with the baud changed
  abbrev sent_as : ℕ → ℕ
  sent_as = level_at (written f c d fits)

  abbrev heard_as : ℕ → ℕ
  heard_as = level_at (with_baud (written f c d fits) (suc k) v w)

  -- the character that they are
  abbrev becomes : ℕ
  becomes = data_of heard_as (data_bits f)

  bauds : (i : ℕ) → (i ≡ suc k → ⊥) → (heard_as (2 * i) ≡ sent_as (2 * i)) × (heard_as (2 * i + 1) ≡ sent_as (2 * i + 1))
  bauds = other f c (parity_bit f c) mark mark (written f c d fits) (written_fits f c d fits) (written_sounds f c d fits) (suc k) v w

  changed : (heard_as (2 * suc k) ≡ level v) × (heard_as (2 * suc k + 1) ≡ level w)
  changed = here f c (parity_bit f c) mark mark (written f c d fits) (written_fits f c d fits) (written_sounds f c d fits) (suc k) v w (omega (arith, inside, (first_stop_lem f).0))

  written_bits : (j : ℕ) → j < data_bits f → (sent_as (2 * suc j) ≡ bit_at c j) × (sent_as (2 * suc j + 1) ≡ bit_at c j)
  written_bits = (written_sounds f c d fits).bits

  -- a data bit's halves are alike still
  halves : (j : ℕ) → j < data_bits f → heard_as (2 * suc j) ≡ heard_as (2 * suc j + 1)
  halves j l = go (ℕ_discrete j k)
    where
      go : Dec (j ≡ k) → heard_as (2 * suc j) ≡ heard_as (2 * suc j + 1)
      go (yes e) = rw e (changed.0 ∙ a ∙ sym (changed.1 ∙ b))
      go (no n) =
          let o = bauds (suc j) (λ e. n (omega (arith, e))) in
          o.0 ∙ (written_bits j l).0 ∙ sym (o.1 ∙ (written_bits j l).1)

  below : (i : ℕ) → heard_as i < 2
  below = level_at_below (with_baud (written f c d fits) (suc k) v w)

  sounds : Sounds f becomes (parity_bit f c) mark mark heard_as
  sounds =
      let h = written_sounds f c d fits in
      let first = bauds 0 (λ e. omega (arith, e)) in
      let last = bauds (first_stop f) (λ e. omega (arith, e, inside, (first_stop_lem f).0)) in
      let between = bauds (suc (data_bits f)) (λ e. omega (arith, e, inside)) in
      record {
        start = (first.0 ∙ h.start.0, first.1 ∙ h.start.1);
        bits = λ j l. let r = bit_read heard_as below (data_bits f) j l in (sym r, sym (r ∙ halves j l));
        parity = λ p. (between.0 ∙ (h.parity p).0, between.1 ∙ (h.parity p).1);
        stop = (last.0 ∙ h.stop.0, last.1 ∙ h.stop.1);
      }

  narrow : becomes < 2 ^ data_bits f
  narrow = data_below heard_as below (data_bits f)

  itself : limited f becomes ≡ becomes
  unfolding limited
  itself = mod-eq_of_lt narrow

  -- the parity bit that was sent is not the one that the changed character asks for
  seen : eqb (parity_bit f c) (parity_bit f becomes) ≡ false
  unfolding parity_bit
  seen =
      let x : ones (limited f c) ≡ count_of sent_as (data_bits f) = ap ones (sym (sounds_data f c (parity_bit f c) mark mark sent_as (written_sounds f c d fits))) ∙ ones_data sent_as (level_at_below (written f c d fits)) (data_bits f) in
      let y : ones (limited f becomes) ≡ count_of heard_as (data_bits f) = ap ones itself ∙ ones_data heard_as below (data_bits f) in
      let o = count_but_one sent_as heard_as (data_bits f) k inside (λ j l n. (bauds (suc j) (λ e. n (omega (arith, e)))).0) in
      let bit = (written_bits k inside).0 in
      rw (x, y) (odd_ones (count_of sent_as (data_bits f)) (count_of heard_as (data_bits f)) (sense f) (heard_as (2 * suc k)) (sent_as (2 * suc k)) (omega (arith, bit, bit_at_below c k)) (omega (arith, changed.0, a, bit)) o)

  -- a data bit the other way, and nothing else
  pub changed_bit : ChangedBit f c k (read_frame f (with_baud (write_frame f c d).cells (k + 1) v w))
  changed_bit =
      let r : read_frame f (with_baud (write_frame f c d).cells (k + 1) v w) ≡ heard f becomes (has_parity f) false =
      rw (add-one k)
      (sounds_read f becomes (parity_bit f c) mark mark (with_baud (written f c d fits) (suc k) v w)
      (changed_fits f c (parity_bit f c) mark mark (written f c d fits) (written_fits f c d fits) (written_sounds f c d fits) (suc k) v w) sounds
      ∙ rw (itself, seen) (ap (λ (t : Bool). heard f becomes t false) (and-true (has_parity f))))
      in
      rw r
      record {
        code = refl;
        this = bit_read heard_as below (data_bits f) k inside ∙ changed.0 ∙ a;
        others = λ j l n. bit_read heard_as below (data_bits f) j l ∙ (bauds (suc j) (λ e. n (omega (arith, e)))).0 ∙ (written_bits j l).0;
        below = narrow;
        parity = refl;
        brk = refl;
        used = refl;
      }
