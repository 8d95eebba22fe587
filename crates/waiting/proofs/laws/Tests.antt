-- The tests of a single thing are true where the demand's words hold, and nowhere else.
--   counts_scans, counts_names   an inspection that counts is a turn, and names the port at the position
--   Reads, reads                 what a test that is true says, by the one case analysis
--   tests                        each test
--   arriving                     a character that is taken is held
-- Not here: what a single thing does to a port, in View.
-- Assumes nothing.
use Rattle.std.specs.Prelude.{◌≡◌, Bool, ◌&&◌, ◌↔◌, ℕ}
use Rattle.std.proofs.Math.Path.{refl, sym, ap}
use Rattle.std.proofs.Common.{◌∙◌, true≢false, arith}
use Rattle.std.proofs.Math.Bool.{true, false}
use Rattle.std.proofs.lemmas.Bool.{false≢true}
use Rattle.std.proofs.Math.Dec.{eqb}
use borrow.Author.Tests.{eqb-true, eq-eqb}
use Rattle.ground.specs.Choose.{pick}
use Rattle.interrupt.specs.declared.Service.{Service}
use Rattle.interrupt.specs.declared.Service.TheVariants.{Input, Output}
use Rattle.unit.specs.declared.reply.Turn.TheVariants.{Served}
use Rattle.unit.specs.Record.{port_at}
use Rattle.unit.specs.Reply.{turn_number, counts, World}
use Rattle.unit.specs.Sound.{Sound}
use Rattle.unit.proofs.laws.Sound.{port_iff}
use Rattle.unit.proofs.laws.Replies.{setup_accepted}
use Rattle.lines.specs.declared.signal.Signal.TheVariants.{Arrival}
use Rattle.lines.proofs.laws.Lines.{arrived}
use Rattle.processor.specs.declared.orders.Order.TheVariants.{Dob}
use Rattle.processor.specs.laws.Processor.{reset_is, dob_is}
use Rattle.scan.specs.Turn.{idle_turn}
use Rattle.scan.specs.Scan.{service_turn, scanned}
use Rattle.scan.specs.laws.Scan.{scanned_input, scanned_output, scanned_idle, served_says, served_names}
use Rattle.scan.proofs.laws.Scan.{sound_scans, scan_moves}
use Rattle.calls.specs.Calls.{set_up, performed}
use Rattle.calls.specs.declared.call.Act.TheVariants.{Processor}
use Rattle.calls.specs.Events.{Single, does, result, after, counted}
use Rattle.waiting.specs.Counting.{turn_at, service_at, unrefused, is_arrival, is_clear, takes_at, holds_at, replaces_at, drops_at}
use Rattle.waiting.specs.Waiting.{Running, Takes, ServiceTurn, Stops, Counts, Clears, reset, setup, Breaks, clears, Tests, Arrivals}
use Rattle.waiting.proofs.laws.View.{View, turn, arrives, clear, quiet, takes_line, view, turn_moves}

-- both of two tests
both : (x y : Bool) → x && y ≡ true → (x ≡ true) × (y ≡ true)
both true y e = (refl, e)
both false y e = absurd (false≢true e)

-- a test that is false is not true
never : {A : Type 0} {b : Bool} → b ≡ false → b ≡ true → A
never f t = absurd (false≢true (sym f ∙ t))

module _ (w : World) (a : Single) where
  -- what a test that is true says
  record Reads (p : ℕ) : Type 0 where
    counts : counted w a ≡ true → Counts w a
    takes : takes_at p w a ≡ true → Takes p w a
    clears : is_clear a && unrefused w a ≡ true → Clears w a

  reads : (p : ℕ) → Reads p
  reads p = by (view p w a)
    where
      by : View p w a → Reads p
      by (turn t c e) = record { counts = λ n. c; takes = never t.takes; clears = never t.clears }
      by (arrives t k s e i m) = record { counts = never t.counts; takes = λ n. k; clears = never t.clears }
      by (clear t k s h) = record { counts = never t.counts; takes = never t.takes; clears = λ n. k }
      by (View.stop t b s l) = record { counts = never t.counts; takes = never t.takes; clears = never t.clears }
      by (quiet t s l) = record { counts = never t.counts; takes = never t.takes; clears = never t.clears }

  -- ---- counted

  -- an inspection that counts is a turn
  pub counts_scans : Counts w a → result w a ≡ scanned w.mux w.memory
  unfolding result performed
  counts_scans c = rw c.look (sound_scans w.mux w.memory c.running.sound c.running.runs c.words)

  counting : (counted w a ≡ true) ↔ Counts w a
  unfolding counted
  counting = ((reads 0).counts, λ c. rw (counts_scans c) (scan_moves w.mux w.memory).is_turn)

  -- ---- a turn

  -- it names the port at the position
  pub counts_names : Counts w a → (result w a).reply.answer.port ≡ w.mux.pos
  counts_names c = ap (λ l. l.reply.answer.port) (counts_scans c) ∙ (scan_moves w.mux w.memory).names

  turning : (p : ℕ) → (turn_at p w a ≡ true) ↔ (Counts w a × (w.mux.pos ≡ p))
  unfolding turn_at
  turning p = (to, back)
    where
      to : counted w a && eqb (result w a).reply.answer.port p ≡ true → Counts w a × (w.mux.pos ≡ p)
      to e =
          let b = both (counted w a) (eqb (result w a).reply.answer.port p) e in
          let c = counting.0 b.0 in
          (c, sym (counts_names c) ∙ eqb-true _ p b.1)

      back : Counts w a × (w.mux.pos ≡ p) → counted w a && eqb (result w a).reply.answer.port p ≡ true
      back c = rw (counting.1 c.0) (eq-eqb _ p (counts_names c.0 ∙ c.1))

  -- ---- a turn that goes to a service

  -- which service it is
  served_is : (j k : Service) → turn_number (Served j) ≡ turn_number (Served k) → j ≡ k
  served_is Input Input e = refl
  served_is Output Output e = refl
  served_is Input Output e = absurd (omega arith)
  served_is Output Input e = absurd (omega arith)

  -- a turn whose answer has a service's number is that service's
  served_turn_lem : (k : Service) → result w a ≡ scanned w.mux w.memory → turn_number (result w a).reply.answer.turn ≡ turn_number (Served k) → result w a ≡ service_turn k w.mux w.memory
  unfolding idle_turn
  served_turn_lem k t n = go (port_at w.mux w.mux.pos).held refl (port_at w.mux w.mux.pos).empty refl
    where
      by : (j : Service) → scanned w.mux w.memory ≡ service_turn j w.mux w.memory → result w a ≡ service_turn k w.mux w.memory
      by j s =
          t ∙ s ∙ ap (λ i. service_turn i w.mux w.memory)
          (served_is j k (sym (ap (λ l. turn_number l.reply.answer.turn) (t ∙ s) ∙ ap turn_number (served_says j w.mux w.memory)) ∙ n))

      idle : (i : Service) → 1 ≡ turn_number (Served i) → ⊥
      idle Input e = omega arith
      idle Output e = omega arith

      go : (h : Bool) → (port_at w.mux w.mux.pos).held ≡ h → (e : Bool) → (port_at w.mux w.mux.pos).empty ≡ e → result w a ≡ service_turn k w.mux w.memory
      go true h e f = by Input (scanned_input w.mux w.memory h)
      go false h true f = by Output (scanned_output w.mux w.memory h f)
      go false h false f = absurd (idle k (sym (ap (λ l. turn_number l.reply.answer.turn) (t ∙ scanned_idle w.mux w.memory h f)) ∙ n))

  serving : (k : Service) (p : ℕ) → (service_at k p w a ≡ true) ↔ ServiceTurn k p w a
  unfolding service_at counted counts
  serving k p = (to, back)
    where
      some : (j : Service) → eqb (turn_number (Served j)) 0 ≡ false
      some Input = refl
      some Output = refl

      to : eqb (turn_number (result w a).reply.answer.turn) (turn_number (Served k)) && eqb (result w a).reply.answer.port p ≡ true → ServiceTurn k p w a
      to e =
          let b = both (eqb (turn_number (result w a).reply.answer.turn) (turn_number (Served k))) (eqb (result w a).reply.answer.port p) e in
          let n : turn_number (result w a).reply.answer.turn ≡ turn_number (Served k) = eqb-true _ _ b.0 in
          let c = counting.0 (rw (n, some k)) in
          record { look = c.look; position = sym (counts_names c) ∙ eqb-true _ p b.1; rules = served_turn_lem k (counts_scans c) n }

      back : ServiceTurn k p w a → eqb (turn_number (result w a).reply.answer.turn) (turn_number (Served k)) && eqb (result w a).reply.answer.port p ≡ true
      back t =
          rw (t.rules, served_says k w.mux w.memory, served_names k w.mux w.memory, t.position)
          (rw (eq-eqb (turn_number (Served k)) (turn_number (Served k)) refl) (eq-eqb p p refl))

  -- ---- a character that is taken

  taking : (p : ℕ) → (takes_at p w a ≡ true) ↔ Takes p w a
  unfolding is_arrival
  taking p = ((reads p).takes, back)
    where
      back : Takes p w a → takes_at p w a ≡ true
      back k =
          rw k.arrival
          ((takes_line w p (Arrival k.byte k.parity k.brk) p ((port_iff w.mux p).1 (k.sound, k.below))).takes
          ∙ rw (eq-eqb p p refl))

  -- what replaces a held one is taken where one is held
  replacing : (p : ℕ) → (replaces_at p w a ≡ true) ↔ (Takes p w a × (holds_at p w ≡ true))
  unfolding replaces_at
  replacing p = (to, λ k. rw ((taking p).1 k.0) k.1)
    where
      to : takes_at p w a && holds_at p w ≡ true → Takes p w a × (holds_at p w ≡ true)
      to e = let b = both (takes_at p w a) (holds_at p w) e in ((taking p).0 b.0, b.1)

  -- ---- a reset, a setup, a stop

  -- a reset or a setup that is accepted is one that is asked and not refused
  cleared : Clears w a → is_clear a && unrefused w a ≡ true
  unfolding is_clear unrefused result performed set_up
  cleared (reset s e) = rw (e, reset_is w.mux s)
  cleared (setup s z e) = rw (e, setup_accepted s z)

  dropping : (p : ℕ) → (drops_at p w a ≡ true) ↔ (Clears w a × (holds_at p w ≡ true))
  unfolding drops_at
  dropping p = (to, λ k. rw (cleared k.0) k.1)
    where
      to : (is_clear a && unrefused w a) && holds_at p w ≡ true → Clears w a × (holds_at p w ≡ true)
      to e = let b = both (is_clear a && unrefused w a) (holds_at p w) e in ((reads p).clears b.0, b.1)

  -- a stop, a reset and a setup leave the unit stopped, and nothing else stops one that runs
  breaking : Running w → Stops w a ↔ Breaks w a
  unfolding result performed set_up pick
  breaking r = (to (view 0 w a), back)
    where
      on : Running (after w a) → Stops w a → Breaks w a
      on s n = absurd (true≢false (sym s.runs ∙ n))

      to : View 0 w a → Stops w a → Breaks w a
      to (turn t c e) = on ((turn_moves 0 w a e).running r)
      to (arrives t k s e i m) = on (s.running r)
      to (clear t k s h) = λ n. clears k
      to (View.stop t b s l) = λ n. b
      to (quiet t s l) = on (s.running r)

      -- a DOB of a sound unit stops it
      stopped : Sound w.mux → (after w (does (Processor Dob))).mux.runs ≡ false
      stopped s = rw (dob_is w.mux s)

      back : Breaks w a → Stops w a
      back (Breaks.stop s e) = ap (λ (x : Single). (after w x).mux.runs) e ∙ stopped s
      back (clears (reset s e)) = rw (e, reset_is w.mux s)
      back (clears (setup s z e)) = rw (e, setup_accepted s z)

-- all of them
pub tests : Tests
tests =
    record {
      counting = counting;
      turning = λ p w a. turning w a p;
      serving = λ k p w a. serving w a k p;
      taking = λ p w a. taking w a p;
      replacing = λ p w a. replacing w a p;
      dropping = λ p w a. dropping w a p;
      breaking = breaking;
    }

-- a character that is taken is held as the lines' rule has it
pub arriving : Arrivals
unfolding result performed
arriving p w a n t =
    let few = t.sound.setting.size.few_ports in
    ap (λ x. port_at (after w x).mux p) t.arrival
    ∙ arrived w.mux p t.byte t.parity t.brk ((port_iff w.mux p).1 (t.sound, t.below)) (omega (arith, n, t.below))
