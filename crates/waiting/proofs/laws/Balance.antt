-- No character is lost uncounted or served twice: what port p takes, with what it held, is what it serves, replaces and drops, with what it
-- holds at the end. This is so of any record that has the port's place, sound or not, running or not, and of any list of single things.
--   uncounted, elsewhere   what does not count, and the turn of another port, go to no service of port p's
--   own_left         after its own turn a port holds nothing
--   balance_step     what one single thing does to what is held
--   Placed, balance  a port that has its place in the array; over any list
--   not_again        where nothing is held, turns to input are at most the characters taken
-- Not here: what a single thing does to a port, in View; that a setup gives a port its place, in calls, laws/Places.
-- Assumes nothing.
use Rattle.std.specs.Prelude.{◌≡◌, Bool, ◌&&◌, List, ◌⊎◌, ℕ, ◌+◌, ◌<◌, length}
use Rattle.std.proofs.Math.Path.{refl, ap}
use Rattle.std.proofs.Common.{sym, ◌∙◌, inl, inr, ne_eqb, eqb-true, eq-eqb}
use Rattle.std.proofs.Math.Bool.{true, false, and-false}
use Rattle.std.proofs.Math.Decide.{ℕ_discrete}
use native.Mathlib.Omega.{arith}
use Rattle.std.proofs.Math.Dec.{eqb}
use Rattle.std.proofs.lemmas.Bool.{not-false}
use Rattle.ground.specs.Choose.{bit}
use Rattle.ground.specs.Machine.{run, tally}
use Rattle.ground.specs.laws.Machine.{total_eq, total-add}
use Rattle.interrupt.specs.declared.Service.{Service}
use Rattle.interrupt.specs.declared.Service.TheVariants.{Input, Output}
use Rattle.unit.specs.declared.reply.Turn.TheVariants.{Served}
use Rattle.unit.specs.Record.{port_at}
use Rattle.unit.specs.Reply.{turn_number, counts, World}
use Rattle.unit.specs.Refusals.{MOST-PORTS}
use Rattle.unit.specs.Sound.{AllPorts}
use Rattle.scan.specs.Turn.{idle_turn}
use Rattle.scan.specs.Scan.{scanned}
use Rattle.scan.specs.laws.Scan.{scanned_input, scanned_output, scanned_idle, served_says, served_names}
use Rattle.scan.proofs.laws.Scan.{scan_moves, turn_takes}
use Rattle.calls.specs.Events.{Single, result, after, counted}
use Rattle.calls.specs.laws.Places.{single_places}
use Rattle.waiting.specs.Counting.{service_at, input_at, takes_at, holds_at, replaces_at, drops_at}
use Rattle.waiting.specs.Waiting.{taken, inputs, NotAgain}
use Rattle.waiting.proofs.laws.View.{Tested, View, turn, arrives, clear, stop, quiet, view, turn_moves}

-- ---- a turn

-- what does not count goes to no service
pub uncounted : (k : Service) (p : ℕ) (w : World) (a : Single) → counted w a ≡ false → service_at k p w a ≡ false
unfolding counted counts service_at
uncounted Input p w a n = rw (eqb-true (turn_number (result w a).reply.answer.turn) 0 (not-false _ n))
uncounted Output p w a n = rw (eqb-true (turn_number (result w a).reply.answer.turn) 0 (not-false _ n))

module _ (w : World) (a : Single) (t : result w a ≡ scanned w.mux w.memory) where
  -- that of another port goes to no service of port p's
  pub elsewhere : (k : Service) (p : ℕ) → (w.mux.pos ≡ p → ⊥) → service_at k p w a ≡ false
  unfolding service_at
  elsewhere k p h =
      let n : eqb (result w a).reply.answer.port p ≡ false = rw (t, (scan_moves w.mux w.memory).names) (ne_eqb w.mux.pos p h) in
      ap (λ b. eqb (turn_number (result w a).reply.answer.turn) (turn_number (Served k)) && b) n ∙ and-false (eqb (turn_number (result w a).reply.answer.turn) (turn_number (Served k)))

  -- a port's own goes to input exactly where something is held
  own_input : input_at w.mux.pos w a ≡ holds_at w.mux.pos w
  unfolding service_at idle_turn
  own_input = go (holds_at w.mux.pos w) refl (port_at w.mux w.mux.pos).empty refl
    where
      go : (h : Bool) → holds_at w.mux.pos w ≡ h → (e : Bool) → (port_at w.mux w.mux.pos).empty ≡ e → input_at w.mux.pos w a ≡ holds_at w.mux.pos w
      go true h e f =
          rw (h, t, scanned_input w.mux w.memory h, served_says Input w.mux w.memory, served_names Input w.mux w.memory)
          (eq-eqb w.mux.pos w.mux.pos refl)
      go false h true f = rw (h, t, scanned_output w.mux w.memory h f, served_says Output w.mux w.memory)
      go false h false f = rw (h, t, scanned_idle w.mux w.memory h f)

  -- and leaves nothing
  pub own_left : holds_at w.mux.pos (after w a) ≡ false
  own_left = ap (λ l. (port_at l.world.mux w.mux.pos).held) t ∙ turn_takes w.mux w.memory

-- ---- any single thing

-- the held characters that a single thing does away with, by the three ways
spent : ℕ → World → Single → ℕ
spent p w a = bit (input_at p w a) + (bit (replaces_at p w a) + bit (drops_at p w a))

module _ (p : ℕ) (w : World) (a : Single) where
  -- what is spent, by how the tests come out
  spends : {count take clear : Bool} → Tested p w a count take clear → spent p w a ≡ bit (input_at p w a) + (bit (take && holds_at p w) + bit (clear && holds_at p w))
  unfolding spent replaces_at drops_at
  spends t = rw (t.takes, t.clears)

  -- what goes, with what is held after, is what comes, with what was held
  balance_step : p < length w.mux.port → spent p w a + bit (holds_at p (after w a)) ≡ bit (takes_at p w a) + bit (holds_at p w)
  unfolding bit
  balance_step i = go (view p w a)
    where
      turned : Dec (w.mux.pos ≡ p) → Tested p w a true false false → result w a ≡ scanned w.mux w.memory → spent p w a + bit (holds_at p (after w a)) ≡ bit (takes_at p w a) + bit (holds_at p w)
      turned (yes e) t s =
          omega (
            arith,
            spends t,
            ap bit t.takes,
            ap bit (ap (λ q. input_at q w a) (sym e) ∙ own_input w a s ∙ ap (λ q. holds_at q w) e),
            ap bit (ap (λ q. holds_at q (after w a)) (sym e) ∙ own_left w a s),
          )
      turned (no h) t s =
          omega (arith, spends t, ap bit t.takes, ap bit (elsewhere w a s Input p h), ap (λ q. bit q.held) ((turn_moves p w a s).other h))

      go : View p w a → spent p w a + bit (holds_at p (after w a)) ≡ bit (takes_at p w a) + bit (holds_at p w)
      go (turn t c s) = turned (ℕ_discrete w.mux.pos p) t s
      go (arrives t k s e h m) = omega (arith, spends t, ap bit (uncounted Input p w a t.counts), ap bit t.takes, ap (λ q. bit q.held) (h i))
      go (clear t k s h) = omega (arith, spends t, ap bit (uncounted Input p w a t.counts), ap bit t.takes, ap bit h)
      go (stop t b s l) = omega (arith, spends t, ap bit (uncounted Input p w a t.counts), ap bit t.takes, ap bit l.held)
      go (quiet t s l) = omega (arith, spends t, ap bit (uncounted Input p w a t.counts), ap bit t.takes, ap bit l.held)

-- ---- a list

-- port p has its place in the array
abbrev pub Placed : ℕ → World → Type 0
Placed p w = p < length w.mux.port

-- and keeps it, for a new array has all 128
pub keeps_place : (p : ℕ) → p < MOST-PORTS → (w : World) (a : Single) → Placed p w → Placed p (after w a)
keeps_place p b w a h = go (single_places w a)
  where
    go : (length (after w a).mux.port ≡ length w.mux.port) ⊎ AllPorts (after w a).mux → Placed p (after w a)
    go (inl e) = rw e h
    go (inr e) = rw e b

-- what is taken, with what was held, is what goes, with what is held at the end
pub balance : (p : ℕ) (w : World) (xs : List Single) → p < MOST-PORTS → Placed p w → taken p w xs + bit (holds_at p w) ≡ inputs p w xs + tally after (replaces_at p) w xs + tally after (drops_at p) w xs + bit (holds_at p (run after w xs))
unfolding spent
balance p w xs b h =
    omega (
      arith,
      total_eq after (Placed p) (keeps_place p b) (spent p) (λ v a. bit (takes_at p v a)) (λ v. bit (holds_at p v)) (balance_step p) w xs h,
      total-add after (λ v a. bit (input_at p v a)) (λ v a. bit (replaces_at p v a) + bit (drops_at p v a)) w xs,
      total-add after (λ v a. bit (replaces_at p v a)) (λ v a. bit (drops_at p v a)) w xs,
    )

-- where nothing is held, turns to input are at most the characters taken since
pub not_again : (p : ℕ) (w : World) → p < MOST-PORTS → Placed p w → holds_at p w ≡ false → NotAgain p w
unfolding bit
not_again p w b h e xs = omega (arith, balance p w xs b h, ap bit e)
