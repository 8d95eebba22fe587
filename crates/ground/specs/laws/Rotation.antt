-- Places 0 to P − 1 that are visited in rotation: whoever waits for a turn at place p gets it within P turns.
--   ahead, closer     how many turns away a place is, and that each turn brings it one nearer
--   Goes              what an act may do to somebody who waits at p: end the wait, be a turn elsewhere or an own turn spent on something else, or be no turn;
--                     an act that is barred ends it
--   Outcome, bound    over any list of acts: the wait ended, or it goes on; either way in fewer than P turns, and P more for each own turn spent,
--                     and no act of the wait was barred
--   each_once         in any P turns each place gets exactly one
-- Not here: runs and what holds on the way, in Machine; what the places are and who waits there, in waiting.
-- Assumes nothing.
use Rattle.std.specs.Prelude.{◌≡◌, Bool, ◌&&◌, ℕ, zero, suc, ◌+◌, ◌-◌, ◌*◌, ◌%◌, ◌≤◌, ◌<◌, eqb}
use Rattle.std.proofs.Math.Path.{refl, ap}
use Rattle.std.proofs.Common.{sym, ◌∙◌, mod-lt, mod-eq_of_lt}
use Rattle.std.proofs.Math.Bool.{true, false}
use mathlib.Core.List.{List, [], ◌∷◌}
use Rattle.std.proofs.Math.Nat.{mod-add-mod, add-mod_right}
use Rattle.std.proofs.Math.Decide.{ℕ_discrete, dec_lt}
use native.Mathlib.Omega.{arith}
use borrow.Author.Tests.{eq-eqb, ne_eqb}
use Rattle.ground.specs.Choose.{bit}
use Rattle.ground.specs.Machine.{run, total, tally, Throughout, Every, Until}

-- place p is d turns ahead of place a
pub record Ahead (P a p d : ℕ) : Type 0 where
  pub near : d < P
  pub there : (a + d) % P ≡ p

-- every place is some turns ahead of every other
pub ahead : (P a p : ℕ) → a < P → p < P → (d : ℕ) × Ahead P a p d
ahead P a p ha hp = go (dec_lt p a)
  where
    go : Dec (p < a) → (d : ℕ) × Ahead P a p d
    go (yes h) = (p + P - a, record { near = omega arith; there = ap (λ x. x % P) (omega arith) ∙ add-mod_right p P ∙ mod-eq_of_lt hp })
    go (no h) = (p - a, record { near = omega arith; there = ap (λ x. x % P) (omega arith) ∙ mod-eq_of_lt hp })

-- where the place is not here, it is one nearer after a turn
pub closer : (P a p d : ℕ) → a < P → (a ≡ p → ⊥) → Ahead P a p d → (e : ℕ) × ((d ≡ suc e) × Ahead P ((a + 1) % P) p e)
closer P a p zero ha h k = absurd (h (sym (mod-eq_of_lt ha) ∙ ap (λ x. x % P) (omega arith) ∙ k.there))
closer P a p (suc d) ha h k =
    (d, (refl, record { near = omega (arith, k.near); there = mod-add-mod (a + 1) P d ∙ ap (λ x. x % P) (omega arith) ∙ k.there }))

-- where the place is here, it is P − 1 turns ahead after its turn
pub around : (P a p : ℕ) → a < P → a ≡ p → Ahead P ((a + 1) % P) p (P - 1)
around P a p ha e =
    record { near = omega arith; there = mod-add-mod (a + 1) P (P - 1) ∙ ap (λ x. x % P) (omega arith) ∙ add-mod_right a P ∙ mod-eq_of_lt ha ∙ e }

module _ {S A : Type 0} (step : S → A → S) (pos : S → ℕ) (P p : ℕ) (turn own barred : S → A → Bool) (Waits : S → Type 0) (End : S → A → Type 0) where
  -- an act on somebody who waits at p: it ends the wait; or the wait goes on, the act is not barred, and it is a turn, which if it is p's
  -- own is spent, or it is no turn and the position stays
  pub data Goes (s : S) (a : A) : Type 0 where
    ends : End s a → Goes s a
    passes : Waits (step s a) → barred s a ≡ false → turn s a ≡ true → (pos s ≡ p → own s a ≡ true) → pos (step s a) ≡ (pos s + 1) % P → Goes s a
    rests : Waits (step s a) → barred s a ≡ false → turn s a ≡ false → pos (step s a) ≡ pos s → Goes s a

  -- of the acts until then: none was barred, and the bound on the turns
  pub record Within (n : ℕ) (s : S) (xs : List A) : Type 0 where
    pub none_barred : tally step barred s xs ≡ 0
    pub few : tally step turn s xs ≤ n + tally step own s xs * P

  -- what became of it: an act of the list ended the wait, or it waits still
  pub data Outcome (n : ℕ) (s : S) (xs : List A) : Type 0 where
    ended : (u : Until step Waits s xs) → End (run step s u.before) u.here → Within n s u.before → Outcome n s xs
    waits : Throughout step Waits s xs → Within n s xs → Outcome n s xs

  module _ (below : (s : S) → Waits s → pos s < P) (goes : (s : S) (a : A) → Waits s → Goes s a) where
    -- one act more that did not end the wait
    within : (m n : ℕ) (s : S) (a : A) (ys : List A) → barred s a ≡ false → bit (turn s a) + m ≤ n + bit (own s a) * P → Within m (step s a) ys → Within n s (a ∷ ys)
    unfolding total bit
    within m n s a ys c h b =
        record { none_barred = rw c (omega (arith, b.none_barred)); few = omega (arith, b.few) }

    -- an outcome after it
    after : (m n : ℕ) (s : S) (a : A) (xs : List A) → Waits s → barred s a ≡ false → bit (turn s a) + m ≤ n + bit (own s a) * P → Outcome m (step s a) xs → Outcome n s (a ∷ xs)
    unfolding run
    after m n s a xs w c h (ended u e b) =
        ended
        (record { before = a ∷ u.before; here = u.here; later = u.later; whole = ap (λ l. a ∷ l) u.whole; meanwhile = (w, u.meanwhile) })
        e
        (within m n s a u.before c h b)
    after m n s a xs w c h (waits t b) = waits (w, t) (within m n s a xs c h b)

    -- no act at all
    at_once : (n : ℕ) (s : S) → Within n s []
    unfolding total
    at_once n s = record { none_barred = refl; few = omega arith }

    from : (d : ℕ) (s : S) (xs : List A) → Waits s → Ahead P (pos s) p d → Outcome d s xs
    unfolding run bit
    from d s [] w k = waits w (at_once d s)
    from d s (a ∷ xs) w k = go (goes s a w) (λ e r wr kr. from e r xs wr kr)
      where
        turned : (Dec (pos s ≡ p)) → Waits (step s a) → barred s a ≡ false → turn s a ≡ true → (pos s ≡ p → own s a ≡ true) → pos (step s a) ≡ (pos s + 1) % P → ((e : ℕ) (r : S) → Waits r → Ahead P (pos r) p e → Outcome e r xs) → Outcome d s (a ∷ xs)
        turned (yes h) v n t o q rest =
            let b = below s w in
            after (P - 1) d s a xs w n (rw (t, o h) (omega arith))
            (rest (P - 1) (step s a) v (rw q (around P (pos s) p (below s w) h)))
        turned (no h) v n t o q rest =
            let c = closer P (pos s) p d (below s w) h k in
            after c.0 d s a xs w n (rw t (omega (arith, c.1.0))) (rest c.0 (step s a) v (rw q c.1.1))

        go : Goes s a → ((e : ℕ) (r : S) → Waits r → Ahead P (pos r) p e → Outcome e r xs) → Outcome d s (a ∷ xs)
        go (ends e) rest = ended (record { before = []; here = a; later = xs; whole = refl; meanwhile = w }) e (at_once d s)
        go (passes v n t o q) rest = turned (ℕ_discrete (pos s) p) v n t o q rest
        go (rests v n t q) rest = after d d s a xs w n (rw t (omega arith)) (rest d (step s a) v (rw q k))

    -- a larger bound
    larger : (m n : ℕ) (s : S) (ys : List A) → m ≤ n → Within m s ys → Within n s ys
    larger m n s ys h b = record { none_barred = b.none_barred; few = omega (arith, b.few) }

    more : (m n : ℕ) (s : S) (xs : List A) → m ≤ n → Outcome m s xs → Outcome n s xs
    more m n s xs h (ended u e b) = ended u e (larger m n s u.before h b)
    more m n s xs h (waits t b) = waits t (larger m n s xs h b)

    -- whoever waits at p waits for fewer than P turns, and P more for each own turn spent
    pub bound : (s : S) (xs : List A) → p < P → Waits s → Outcome (P - 1) s xs
    bound s xs h w =
        let k = ahead P (pos s) p (below s w) h in
        more k.0 (P - 1) s xs (omega (arith, k.1.near)) (from k.0 s xs w k.1)

-- ---- each place once

-- a place is no turns ahead of itself
here_zero : (P p d : ℕ) → p < P → Ahead P p p d → d ≡ 0
here_zero P p d h k = go (dec_lt (p + d) P)
  where
    go : Dec (p + d < P) → d ≡ 0
    go (yes l) = omega (arith, sym (mod-eq_of_lt l) ∙ k.there)
    go (no l) =
        let r : (p + d) % P ≡ p + d - P = ap (λ x. x % P) (omega arith) ∙ add-mod_right (p + d - P) P ∙ mod-eq_of_lt (omega (arith, k.near)) in
        omega (arith, r, k.there, k.near)

module _ {S A : Type 0} (step : S → A → S) (pos : S → ℕ) (P : ℕ) (turn : S → A → Bool) where
  -- a turn moves the position one on, and what is no turn leaves it
  pub record Moves (s : S) (a : A) : Type 0 where
    pub on : turn s a ≡ true → pos (step s a) ≡ (pos s + 1) % P
    pub stays : turn s a ≡ false → pos (step s a) ≡ pos s

  -- a turn of the place p
  abbrev pub turn_of : ℕ → S → A → Bool
  turn_of p s a = turn s a && eqb (pos s) p

  -- after a run from where the place p was d turns ahead: how far ahead it is, and its own turns among all turns
  pub record Rotated (p d : ℕ) (s : S) (xs : List A) : Type 0 where
    pub now : ℕ
    pub ahead : Ahead P (pos (run step s xs)) p now
    pub sum : tally step turn s xs + now ≡ d + tally step (turn_of p) s xs * P

  rotation : (p d : ℕ) (s : S) (xs : List A) → p < P → pos s < P → Ahead P (pos s) p d → Every step Moves s xs → Rotated p d s xs
  unfolding run total bit
  rotation p d s [] h b k m = record { now = d; ahead = k; sum = omega arith }
  rotation p d s (a ∷ xs) h b k m = go (turn s a) refl (ℕ_discrete (pos s) p) (λ e br kr. rotation p e (step s a) xs h br kr m.1)
    where
      go : (t : Bool) → turn s a ≡ t → Dec (pos s ≡ p) → ((e : ℕ) → pos (step s a) < P → Ahead P (pos (step s a)) p e → Rotated p e (step s a) xs) → Rotated p d s (a ∷ xs)
      go false e x rest =
          let r = rest d (rw (m.0.stays e) b) (rw (m.0.stays e) k) in
          record { now = r.now; ahead = r.ahead; sum = rw e (omega (arith, r.sum)) }
      go true e (yes h') rest =
          let q = m.0.on e in
          let r = rest (P - 1) (rw q (mod-lt (pos s + 1) (omega arith))) (rw q (around P (pos s) p b h')) in
          record { now = r.now; ahead = r.ahead; sum = rw (e, eq-eqb (pos s) p h') (omega (arith, r.sum, here_zero P p d h (rw h' at k))) }
      go true e (no h') rest =
          let q = m.0.on e in
          let c = closer P (pos s) p d b h' k in
          let r = rest c.0 (rw q (mod-lt (pos s + 1) (omega arith))) (rw q c.1.1) in
          record { now = r.now; ahead = r.ahead; sum = rw (e, ne_eqb (pos s) p h') (omega (arith, r.sum, c.1.0)) }

  -- in any P turns each place gets exactly one
  pub each_once : (p : ℕ) (s : S) (xs : List A) → p < P → pos s < P → Every step Moves s xs → tally step turn s xs ≡ P → tally step (turn_of p) s xs ≡ 1
  each_once p s xs h b m e =
      let k = ahead P (pos s) p b h in
      let r = rotation p k.0 s xs h b k.1 m in
      only (tally step (turn_of p) s xs) r.now k.0 r.ahead.near k.1.near (sym (ap (λ x. x + r.now) e) ∙ r.sum)
    where
      only : (n x y : ℕ) → x < P → y < P → P + x ≡ y + n * P → n ≡ 1
      only zero x y hx hy q = omega arith
      only (suc zero) x y hx hy q = refl
      only (suc (suc n)) x y hx hy q = omega arith
