-- Laws of the interrupt side, of either kind.
--   sound_fill                    sound is: at most 40 entries
--   fresh_sound .. ticked_sound   each of its changes leaves it sound
--   quiet_shows, quiet_flag       START of an EDS-8 clears what DIA shows, and the flag
--   cleared_fresh                 after a reset it is a new unit's
--   raised_flag, ticked_flag      an interrupt and a tick set the flag
-- Not here: the bits of the status word, in words, Codes; the entries of a stack, in Stack; when an interrupt is raised, in input, output and scan.
-- Assumes nothing.
use Rattle.std.specs.Prelude.{◌≡◌, refl, Bool, true, false, ◌↔◌, ℕ, ◌≤◌, ◌<◌, ltb, eqb}
use Rattle.std.proofs.Common.{arith, ltb-true, ltb-false, le-ltb}
use Rattle.ground.specs.Choose.{pick}
use Rattle.interrupt.specs.declared.Kind.{Kind}
use Rattle.interrupt.specs.declared.Kind.TheVariants.{Eds8, MightyMux}
use Rattle.interrupt.specs.declared.Service.{Service}
use Rattle.interrupt.specs.declared.Irq.{Irq}
use Rattle.interrupt.specs.Stack.{DEPTH, entry, queued, overflowed, pushed, shorter, removed, popped}
use Rattle.interrupt.specs.Interrupt.{fresh, cleared, unsound, merged, raised, started, ticked, shown}

-- ---- soundness

pub sound_fill : (i : Irq) → (unsound i ≡ false) ↔ (i.fill ≤ DEPTH)
unfolding unsound
sound_fill i = (λ e. ltb-false _ _ e, λ h. le-ltb _ _ h)

-- what has no more entries than one that is sound is sound
no_more : (i j : Irq) → (i.fill ≤ DEPTH → j.fill ≤ DEPTH) → unsound i ≡ false → unsound j ≡ false
no_more i j f e = (sound_fill j).1 (f ((sound_fill i).0 e))

pub fresh_sound : unsound fresh ≡ false
unfolding unsound
fresh_sound = refl

pub cleared_sound : (i : Irq) → unsound i ≡ false → unsound (cleared i) ≡ false
unfolding cleared
cleared_sound i e = fresh_sound

-- an interrupt adds an entry only where there are fewer than 40
pushed_few : (e : ℕ) (i : Irq) → i.fill ≤ DEPTH → (pushed e i).fill ≤ DEPTH
unfolding pushed pick
pushed_few e i h = go (ltb i.fill DEPTH) refl
  where
    go : (t : Bool) → ltb i.fill DEPTH ≡ t → (pick t (queued e i) (overflowed i)).fill ≤ DEPTH
    go true l = let b : i.fill < DEPTH = ltb-true _ _ l in omega arith
    go false l = h

pub raised_sound : (k : Kind) (s : Service) (address : ℕ) (i : Irq) → unsound i ≡ false → unsound (raised k s address i) ≡ false
unfolding raised merged
raised_sound Eds8 s address i e = no_more i (merged s address i) (λ h. h) e
raised_sound MightyMux s address i e = no_more i (pushed (entry s address) i) (pushed_few (entry s address) i) e

-- START adds none
removed_few : (i : Irq) → i.fill ≤ DEPTH → (removed i).fill ≤ DEPTH
unfolding removed pick
removed_few i h = go (eqb i.fill 0)
  where
    go : (t : Bool) → (pick t i (shorter i)).fill ≤ DEPTH
    go true = h
    go false = omega arith

pub started_sound : (k : Kind) (i : Irq) → unsound i ≡ false → unsound (started k i) ≡ false
unfolding started popped
started_sound Eds8 i e = no_more i (started Eds8 i) (λ h. h) e
started_sound MightyMux i e = no_more i (started MightyMux i) (removed_few i) e

pub ticked_sound : (i : Irq) → unsound i ≡ false → unsound (ticked i) ≡ false
unfolding ticked
ticked_sound i e = no_more i (ticked i) (λ h. h) e

-- ---- the flag, and what DIA shows

-- START of an EDS-8 clears what DIA shows
pub quiet_shows : (i : Irq) → shown Eds8 (started Eds8 i) ≡ 0
unfolding started shown
quiet_shows i = refl

-- and the flag
pub quiet_flag : (i : Irq) → (started Eds8 i).flag ≡ false
unfolding started
quiet_flag i = refl

-- after a reset it is a new unit's
pub cleared_fresh : (i : Irq) → cleared i ≡ fresh
unfolding cleared
cleared_fresh i = refl

-- an interrupt sets the flag, one that finds a full stack as well
pub raised_flag : (k : Kind) (s : Service) (address : ℕ) (i : Irq) → (raised k s address i).flag ≡ true
unfolding raised merged pushed pick
raised_flag Eds8 s address i = refl
raised_flag MightyMux s address i = go (ltb i.fill DEPTH)
  where
    go : (t : Bool) → (pick t (queued (entry s address) i) (overflowed i)).flag ≡ true
    go true = refl
    go false = refl

-- and so does a tick
pub ticked_flag : (i : Irq) → (ticked i).flag ≡ true
unfolding ticked
ticked_flag i = refl
