-- Any two outcomes that a call's contract allows are equal (document 01, what a proof here has to nail).
-- The contract of each call fixes the reply, the record, the memory and the list by one equation with its definition, so two outcomes
-- that meet it meet each other. There is no exception.
--   OneOutcome, one_outcome   of each call by value, and of the step
-- Not here: the same through the door, in door, laws/Door.
-- Assumes nothing.
use Rattle.std.specs.Prelude.{◌≡◌, List, ℕ}
use Rattle.std.proofs.Common.{sym, ◌∙◌, ap}
use Rattle.unit.specs.declared.mux.Setting.{Setting}
use Rattle.unit.specs.declared.mux.Mux.{Mux}
use Rattle.unit.specs.Reply.{Replied}
use Rattle.unit.specs.Reply.{World, Looked, looked, Outcome, outcome}
use Rattle.unit.specs.Setup.{setup}
use Rattle.lines.specs.declared.signal.Signal.{Signal}
use Rattle.lines.specs.Lines.{line}
use Rattle.processor.specs.declared.orders.Order.{Order}
use Rattle.processor.specs.Processor.{order}
use Rattle.scan.specs.Scan.{inspection}
use Rattle.sweep.specs.Sweep.{sweep}
use Rattle.calls.specs.declared.call.Call.{Call}
use Rattle.calls.specs.Calls.{step}

-- whatever two replies meet the contract's equation are the same
abbrev pub Alone : Replied → Type 0
Alone z = (x y : Replied) → x ≡ z → y ≡ z → x ≡ y

-- whatever two replies and memories do
abbrev pub AloneWithMemory : Looked → Type 0
AloneWithMemory z = (x y : Replied) (m n : List ℕ) → looked x m ≡ z → looked y n ≡ z → (x ≡ y) × (m ≡ n)

-- whatever two replies, memories and lists do
abbrev pub AloneWithList : Outcome → Type 0
AloneWithList z = (x y : Replied) (m n xs ys : List ℕ) → outcome x m xs ≡ z → outcome y n ys ≡ z → (x ≡ y) × ((m ≡ n) × (xs ≡ ys))

alone : (z : Replied) → Alone z
alone z x y p q = p ∙ sym q

alone_with_memory : (z : Looked) → AloneWithMemory z
alone_with_memory z x y m n p q =
    let e = p ∙ sym q in
    (ap (λ (l : Looked). record { reply = l.reply; mux = l.world.mux }) e, ap (λ (l : Looked). l.world.memory) e)

alone_with_list : (z : Outcome) → AloneWithList z
alone_with_list z x y m n xs ys p q =
    let e = p ∙ sym q in
    (ap (λ (o : Outcome). record { reply = o.reply; mux = o.world.mux }) e, (ap (λ (o : Outcome). o.world.memory) e, ap (λ (o : Outcome). o.list) e))

pub record OneOutcome : Type 0 where
  pub setup_one : (s : Setting) → Alone (setup s)
  pub line_one : (u : Mux) (p : ℕ) (e : Signal) → Alone (line u p e)
  pub order_one : (u : Mux) (o : Order) → Alone (order u o)
  pub inspection_one : (u : Mux) (m : List ℕ) → AloneWithMemory (inspection u m)
  pub sweep_one : (u : Mux) (m : List ℕ) (n : ℕ) (xs : List ℕ) → AloneWithList (sweep u m n xs)
  pub step_one : (w : World) (xs : List ℕ) (c : Call) → AloneWithList (step w xs c)

pub one_outcome : OneOutcome
one_outcome =
    record {
      setup_one = λ s. alone (setup s);
      line_one = λ u p e. alone (line u p e);
      order_one = λ u o. alone (order u o);
      inspection_one = λ u m. alone_with_memory (inspection u m);
      sweep_one = λ u m n xs. alone_with_list (sweep u m n xs);
      step_one = λ w xs c. alone_with_list (step w xs c);
    }
