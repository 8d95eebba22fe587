-- Laws of the entries of a Mighty Mux.
-- Here, and not in specs/laws/Stack, is what rests on other laws of specs/: an edit of a definition counts as refused where nothing in specs/ rests on the
-- law that it breaks.
-- Assumes nothing.
use Rattle.std.specs.Prelude.{◌≡◌, refl, Bool, true, false, List, ℕ, zero, suc, ◌+◌, ◌-◌, ◌<◌, ltb, drop, replicate}
use Rattle.std.proofs.Common.{sym, ◌∙◌, ap, arith, length-set, drop-drop, drop-set-lt, ltb-true}
use Rattle.ground.specs.Choose.{pick}
use Rattle.interrupt.specs.declared.Kind.{Kind}
use Rattle.interrupt.specs.declared.Kind.TheVariants.{Eds8, MightyMux}
use Rattle.interrupt.specs.declared.Service.{Service}
use Rattle.interrupt.specs.declared.Irq.{Irq}
use Rattle.interrupt.specs.Stack.{DEPTH, Tidy, entry, queued, overflowed, pushed}
use Rattle.interrupt.specs.Interrupt.{merged, raised}
use Rattle.interrupt.specs.laws.Stack.{like}

-- ---- freed places are 0

-- zeros but for the first of them
fewer : (n : ℕ) → drop {A = ℕ} 1 (replicate n 0) ≡ replicate (n - 1) 0
fewer zero = refl
fewer (suc n) = let e : suc n - 1 ≡ n = omega arith in rw e refl

queued_tidy : (e : ℕ) (i : Irq) → i.fill < DEPTH → Tidy i → Tidy (queued e i)
queued_tidy e i l t =
    let zeros : DEPTH - i.fill - 1 ≡ DEPTH - (i.fill + 1) = omega arith in
    record {
      places = length-set i.stack i.fill e ∙ t.places;
      fits = omega arith;
      freed =
          drop-set-lt (i.fill + 1) i.stack i.fill e (omega arith)
          ∙ sym (drop-drop 1 i.fill i.stack)
          ∙ ap (λ (l : List ℕ). drop 1 l) t.freed
          ∙ fewer (DEPTH - i.fill)
          ∙ ap (λ (n : ℕ). replicate n 0) zeros;
    }

pushed_tidy : (e : ℕ) (i : Irq) → Tidy i → Tidy (pushed e i)
unfolding pushed pick
pushed_tidy e i t = go (ltb i.fill DEPTH) refl
  where
    go : (b : Bool) → ltb i.fill DEPTH ≡ b → Tidy (pick b (queued e i) (overflowed i))
    go true l = queued_tidy e i (ltb-true _ _ l) t
    go false l = like i (overflowed i) refl refl t

pub raised_tidy : (k : Kind) (s : Service) (address : ℕ) (i : Irq) → Tidy i → Tidy (raised k s address i)
unfolding raised merged
raised_tidy Eds8 s address i t = like i (merged s address i) refl refl t
raised_tidy MightyMux s address i t = pushed_tidy (entry s address) i t
