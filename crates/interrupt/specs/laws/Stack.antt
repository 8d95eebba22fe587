-- Laws of the entries of a Mighty Mux.
--   fresh_tidy .. ticked_tidy      a new unit's is tidy, and each change leaves it so, of either kind
--   same_stack                     where both are tidy, equal entries are equal stacks
--   pushed_room, pushed_full       an interrupt that finds room, and one that finds 40 entries
--   accepted, push_entries, push_lost   what an interrupt adds behind the entries, and when it sets the lost mark
--   start_entries                  what START takes from their front, if there is one
--   start_flag, start_lost         after START: the flag is on exactly where entries remain, and the lost mark stays only there
-- In proofs/laws/Stack, since they rest on these: raised_tidy.
-- Not here: what DIA shows, in Shown; a run of many calls, in fifo.
-- Assumes nothing.
use Rattle.std.specs.Prelude.{◌≡◌, refl, Bool, true, false, not, ◌&&◌, ◌||◌, List, [], ◌∷◌, ◌++◌, ℕ, zero, suc, ◌+◌, ◌-◌, ◌≤◌, ◌<◌, ltb, length, take, drop, replicate}
use Rattle.std.proofs.Common.{sym, ◌∙◌, ap, append-nil, add-one, arith, length-append, length-drop, take-append-drop, length-take-le, drop-drop, take-suc-set, ltb-true, lt-ltb, le-ltb, eq-eqb, ne_eqb}
use Rattle.std.proofs.Math.Decide.{ℕ_discrete}
use Rattle.std.proofs.lemmas.List.{replicate-append-replicate, take-append-le, drop-append-le}
use Rattle.ground.specs.Choose.{pick}
use Rattle.ground.specs.laws.Rows.{pick_true, pick-false}
use Rattle.interrupt.specs.declared.Kind.{Kind}
use Rattle.interrupt.specs.declared.Kind.TheVariants.{Eds8, MightyMux}
use Rattle.interrupt.specs.declared.Irq.{Irq}
use Rattle.interrupt.specs.Stack.{DEPTH, entries, Tidy, queued, overflowed, pushed, shifted, shorter, removed, remain, popped}
use Rattle.interrupt.specs.Interrupt.{fresh, cleared, started, ticked}

-- ---- freed places are 0

-- it is a matter of the number of entries and the places alone
pub like : (i j : Irq) → j.fill ≡ i.fill → j.stack ≡ i.stack → Tidy i → Tidy j
like i j e f t = record { places = ap length f ∙ t.places; fits = rw e t.fits; freed = rw (e, f) t.freed }

pub fresh_tidy : Tidy fresh
fresh_tidy = record { places = refl; fits = omega arith; freed = refl }

pub cleared_tidy : (i : Irq) → Tidy (cleared i)
unfolding cleared
cleared_tidy i = fresh_tidy

-- the places after START, where there are n + 1 entries
shifted_length : (a : List ℕ) → length a ≡ DEPTH → length (shifted a) ≡ DEPTH
shifted_length a e = length-append (drop 1 a) (0 ∷ []) ∙ ap (λ (k : ℕ). k + 1) (length-drop 1 a ∙ ap (λ (k : ℕ). k - 1) e)

shifted_freed : (n : ℕ) (a : List ℕ) → length a ≡ DEPTH → 1 + n ≤ DEPTH → drop (1 + n) a ≡ replicate (DEPTH - (1 + n)) 0 → drop n (shifted a) ≡ replicate (DEPTH - n) 0
shifted_freed n a e h f =
    drop-append-le n (drop 1 a) (0 ∷ []) (omega (arith, length-drop 1 a, e))
    ∙ ap (λ (l : List ℕ). l ++ (0 ∷ [])) (drop-drop n 1 a ∙ f)
    ∙ replicate-append-replicate (DEPTH - (1 + n)) 1 0
    ∙ ap (λ (k : ℕ). replicate k 0) zeros
  where
    zeros : DEPTH - (1 + n) + 1 ≡ DEPTH - n
    zeros = omega arith

shorter_tidy : (i : Irq) → (i.fill ≡ 0 → ⊥) → Tidy i → Tidy (shorter i)
shorter_tidy i h t =
    let e : 1 + (i.fill - 1) ≡ i.fill = omega (arith, h) in
    record {
      places = shifted_length i.stack t.places;
      fits = omega (arith, t.fits);
      freed = shifted_freed (i.fill - 1) i.stack t.places (rw e t.fits) (rw e t.freed);
    }

-- START removes nothing where there is no entry, and the oldest where there is one
pub removed_none : (i : Irq) → i.fill ≡ 0 → removed i ≡ i
unfolding removed
removed_none i e = pick_true _ _ _ (eq-eqb _ _ e)

pub removed_some : (i : Irq) → (i.fill ≡ 0 → ⊥) → removed i ≡ shorter i
unfolding removed
removed_some i h = pick-false _ _ _ (ne_eqb _ _ h)

removed_tidy : (i : Irq) → Tidy i → Tidy (removed i)
removed_tidy i t = go (ℕ_discrete i.fill 0)
  where
    go : Dec (i.fill ≡ 0) → Tidy (removed i)
    go (yes e) = rw (removed_none i e) t
    go (no h) = rw (removed_some i h) (shorter_tidy i h t)

pub started_tidy : (k : Kind) (i : Irq) → Tidy i → Tidy (started k i)
unfolding started popped
started_tidy Eds8 i t = like i (started Eds8 i) refl refl t
started_tidy MightyMux i t = like (removed i) (popped i) refl refl (removed_tidy i t)

pub ticked_tidy : (i : Irq) → Tidy i → Tidy (ticked i)
unfolding ticked
ticked_tidy i t = like i (ticked i) refl refl t

-- how many entries there are
pub entries_length : (i : Irq) → Tidy i → length (entries i) ≡ i.fill
entries_length i t = length-take-le i.fill i.stack (rw t.places t.fits)

-- equal entries are equal stacks: as many, and the same word in every place
pub same_stack : (i j : Irq) → Tidy i → Tidy j → entries i ≡ entries j → (i.fill ≡ j.fill) × (i.stack ≡ j.stack)
same_stack i j s t e = (n, sym (whole i s) ∙ rw (e, n) (whole j t))
  where
    n : i.fill ≡ j.fill
    n = sym (entries_length i s) ∙ ap length e ∙ entries_length j t

    whole : (x : Irq) → Tidy x → entries x ++ replicate (DEPTH - x.fill) 0 ≡ x.stack
    whole x r = ap (λ (l : List ℕ). entries x ++ l) (sym r.freed) ∙ take-append-drop x.fill x.stack

-- ---- an interrupt

-- it finds room
pub pushed_room : (e : ℕ) (i : Irq) → i.fill < DEPTH → pushed e i ≡ queued e i
unfolding pushed
pushed_room e i h = pick_true _ _ _ (lt-ltb _ _ h)

-- it finds 40 entries
pub pushed_full : (e : ℕ) (i : Irq) → DEPTH ≤ i.fill → pushed e i ≡ overflowed i
unfolding pushed
pushed_full e i h = pick-false _ _ _ (le-ltb _ _ h)

-- what is accepted of an interrupt: its entry where there are fewer than 40
abbrev pub accepted : ℕ → Irq → List ℕ
accepted e i = pick (ltb i.fill DEPTH) (e ∷ []) []

-- it stands behind the others
pub push_entries : (e : ℕ) (i : Irq) → Tidy i → entries (pushed e i) ≡ entries i ++ accepted e i
unfolding pushed pick
push_entries e i t = go (ltb i.fill DEPTH) refl
  where
    go : (b : Bool) → ltb i.fill DEPTH ≡ b → entries (pick b (queued e i) (overflowed i)) ≡ entries i ++ pick b (e ∷ []) []
    go true l = rw (add-one i.fill) (take-suc-set i.stack i.fill e (rw t.places (ltb-true _ _ l)))
    go false l = sym (append-nil (entries i))

-- it sets the lost mark exactly where there are 40, and clears none
pub push_lost : (e : ℕ) (i : Irq) → (pushed e i).lost ≡ (i.lost || not (ltb i.fill DEPTH))
unfolding pushed pick
push_lost e i = go (ltb i.fill DEPTH) i.lost refl
  where
    go : (b l : Bool) → i.lost ≡ l → (pick b (queued e i) (overflowed i)).lost ≡ (i.lost || not b)
    go true true h = rw h
    go true false h = rw h
    go false true h = rw h
    go false false h = rw h

-- ---- START

-- the oldest entry and those behind it
shorter_entries : (n : ℕ) (a : List ℕ) → (n ≡ 0 → ⊥) → n ≤ length a → take 1 (take n a) ++ take (n - 1) (shifted a) ≡ take n a
shorter_entries zero a h l = absurd (h refl)
shorter_entries (suc n) [] h l = absurd (omega arith)
shorter_entries (suc n) (x ∷ xs) h l =
    let e : suc n - 1 ≡ n = omega arith in
    rw e (ap (λ (ys : List ℕ). x ∷ ys) (take-append-le n xs (0 ∷ []) (omega arith)))

-- what START takes, and what it leaves, are the entries that there were
pub start_entries : (i : Irq) → Tidy i → take 1 (entries i) ++ entries (started MightyMux i) ≡ entries i
unfolding started popped
start_entries i t = go (ℕ_discrete i.fill 0)
  where
    go : Dec (i.fill ≡ 0) → take 1 (entries i) ++ entries (removed i) ≡ entries i
    go (yes e) = rw (removed_none i e, e)
    go (no h) = rw (removed_some i h) (shorter_entries i.fill i.stack h (rw t.places t.fits))

-- the flag after START is on exactly where entries remain
pub start_flag : (i : Irq) → (started MightyMux i).flag ≡ remain (started MightyMux i)
unfolding started popped
start_flag i = refl

-- START neither sets the lost mark nor clears it while entries remain
pub start_lost : (i : Irq) → (started MightyMux i).lost ≡ (i.lost && remain (started MightyMux i))
unfolding started popped
start_lost i = ap (λ (b : Bool). b && remain (removed i)) (go (ℕ_discrete i.fill 0))
  where
    go : Dec (i.fill ≡ 0) → (removed i).lost ≡ i.lost
    go (yes e) = rw (removed_none i e)
    go (no h) = rw (removed_some i h)
