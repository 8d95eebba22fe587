-- An entry of a Mighty Mux, and what DIA shows of its stack, bit by bit (000, 2.4.7 and Table 2-3; document 02, K6).
--   entry_input, entry_output   an entry in numbers
--   Shows, shows                bit 0 is the clock's, bit 1 the lost mark, bits 2 to 15 those of the oldest entry; bits 1 to 15 are 0 if there is none
--   start_clock, tick_clock     START clears bit 0, a tick sets it, of either kind
-- Not here: which entry is the oldest, in Stack.
-- Assumes nothing.
use Rattle.std.specs.Prelude.{◌≡◌, refl, Bool, true, false, List, [], ◌∷◌, ℕ, zero, suc, ◌+◌, ◌*◌, eqb, get_or, take}
use Rattle.std.proofs.Common.{sym, ◌∙◌, ap, arith, eq-eqb, ne_eqb}
use Rattle.ground.specs.Choose.{pick, bit}
use Rattle.ground.specs.laws.Rows.{pick_true, pick-false, bit_below}
use Rattle.words.specs.Field.{bits, get, put, Whole}
use Rattle.words.specs.Codes.{REAL-TIME, STACK-OVERFLOW}
use Rattle.words.specs.laws.Field.{whole, get_below, get-put, get_put_below}
use Rattle.interrupt.specs.declared.Kind.{Kind}
use Rattle.interrupt.specs.declared.Kind.TheVariants.{Eds8, MightyMux}
use Rattle.interrupt.specs.declared.Service.TheVariants.{Input, Output}
use Rattle.interrupt.specs.declared.Irq.{Irq}
use Rattle.interrupt.specs.Status.{service_marked}
use Rattle.interrupt.specs.Stack.{entries, entry, popped, oldest, top}
use Rattle.interrupt.specs.Interrupt.{started, ticked, shown}

-- bit 2 and the address
pub entry_input : (address : ℕ) → entry Input address ≡ 8192 + address * 32
unfolding entry service_marked put get
entry_input address = refl

-- bit 3 and the address
pub entry_output : (address : ℕ) → entry Output address ≡ 4096 + address * 32
unfolding entry service_marked put get
entry_output address = refl

clock_whole : Whole REAL-TIME
clock_whole = whole REAL-TIME tt tt refl

mark_whole : Whole STACK-OVERFLOW
mark_whole = whole STACK-OVERFLOW tt tt refl

zero_bits : get (bits 1 15) 0 ≡ 0
unfolding get
zero_bits = refl

-- the first of n places, and 0 where n is 0
front : (n : ℕ) (a : List ℕ) → get_or (take n a) 0 0 ≡ pick (eqb n 0) 0 (get_or a 0 0)
unfolding pick
front zero a = refl
front (suc n) a = rw (ne_eqb (suc n) 0 (λ e. omega (arith, e))) (by a)
  where
    by : (l : List ℕ) → get_or (take (suc n) l) 0 0 ≡ get_or l 0 0
    by [] = refl
    by (x ∷ xs) = refl

-- what DIA shows of any stack
pub record Shows (i : Irq) : Type 0 where
  pub clock : get REAL-TIME (top i) ≡ get REAL-TIME i.status
  pub none : i.fill ≡ 0 → get (bits 1 15) (top i) ≡ 0
  pub mark : (i.fill ≡ 0 → ⊥) → get STACK-OVERFLOW (top i) ≡ bit i.lost
  pub oldest : get (bits 2 15) (top i) ≡ get (bits 2 15) (get_or (entries i) 0 0)

pub shows : (i : Irq) → Shows i
unfolding top oldest pick
shows i =
    record {
      clock = get-put REAL-TIME (get REAL-TIME i.status) (oldest i) clock_whole (get_below REAL-TIME i.status clock_whole);
      none =
          λ e. get_put_below REAL-TIME (bits 1 15) 1 _ (oldest i) refl (whole (bits 1 15) tt tt refl)
          ∙ ap (get (bits 1 15)) (pick_true _ _ _ (eq-eqb _ _ e))
          ∙ zero_bits;
      mark =
          λ h. get_put_below REAL-TIME STACK-OVERFLOW 1 _ (oldest i) refl mark_whole
          ∙ ap (get STACK-OVERFLOW) (pick-false _ _ _ (ne_eqb _ _ h))
          ∙ get-put STACK-OVERFLOW (bit i.lost) _ mark_whole (bit_below i.lost);
      oldest =
          get_put_below REAL-TIME (bits 2 15) 2 _ (oldest i) refl (whole (bits 2 15) tt tt refl)
          ∙ beside (eqb i.fill 0)
          ∙ ap (get (bits 2 15)) (sym (front i.fill i.stack));
    }
  where
    -- the mark is in none of these bits
    beside : (none : Bool) → get (bits 2 15) (pick none 0 (put STACK-OVERFLOW (bit i.lost) (get_or i.stack 0 0))) ≡ get (bits 2 15) (pick none 0 (get_or i.stack 0 0))
    beside true = refl
    beside false = get_put_below STACK-OVERFLOW (bits 2 15) 1 _ _ refl (whole (bits 2 15) tt tt refl)

-- START clears bit 0
pub start_clock : (k : Kind) (i : Irq) → get REAL-TIME (shown k (started k i)) ≡ 0
unfolding started shown popped get
start_clock Eds8 i = refl
start_clock MightyMux i = (shows (popped i)).clock

-- a tick sets it
pub tick_clock : (k : Kind) (i : Irq) → get REAL-TIME (shown k (ticked i)) ≡ 1
unfolding shown ticked
tick_clock Eds8 i = get-put REAL-TIME 1 i.status clock_whole (omega arith)
tick_clock MightyMux i = (shows (ticked i)).clock ∙ get-put REAL-TIME 1 i.status clock_whole (omega arith)
