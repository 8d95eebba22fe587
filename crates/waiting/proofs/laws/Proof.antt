-- Demand 3, proved: both bounds are the law of a rotation (ground, laws/Rotation), with what one single thing does (View) in its place.
--   Wait, waits_for, ended_by       what must be known of a wait at port p, what then becomes of it, and by what it ended
--   input_fate, output_fate         what becomes of a held character, and of an empty transmitter
--   each_port_once                  every port has its turn in P of them
--   since_places, arrived_fate, handed_fate   the 128 places since a setup; the first bound; the second
--   demand                          the whole statement
-- Not here: that a character is served once, in Balance; what the tests mean, in Tests.
-- Assumes nothing.
use Rattle.std.specs.Prelude.{◌≡◌, refl, Bool, true, false, not, ◌&&◌, List, [], ◌∷◌, ◌⊎◌, ℕ, ◌+◌, ◌-◌, ◌*◌, ◌%◌, ◌≤◌, ◌<◌, eqb, length}
use Rattle.std.proofs.Common.{sym, ◌∙◌, ap, subst, true≢false, inl, inr, mul-le-mul_right, arith}
use Rattle.std.proofs.Math.Decide.{ℕ_discrete}
use Rattle.ground.specs.Choose.{bit}
use Rattle.ground.specs.Machine.{Throughout, Every}
use Rattle.ground.specs.laws.Machine.{run_keeps, never, throughout_map, until_map, until_le, total_same}
use Rattle.ground.specs.laws.Rotation.{Goes, ends, passes, rests, Within, Outcome, ended, waits, bound, Moves, each_once}
use Rattle.interrupt.specs.declared.Service.TheVariants.{Input, Output}
use Rattle.unit.specs.declared.mux.Character.{Character}
use Rattle.unit.specs.Record.{port_at}
use Rattle.unit.specs.Reply.{World}
use Rattle.unit.specs.Refusals.{MOST-PORTS}
use Rattle.unit.specs.Sound.{Sound, AllPorts}
use Rattle.unit.specs.laws.Ports.{held_inside, empty_inside}
use Rattle.lines.specs.laws.Lines.{Marked}
use Rattle.scan.specs.Scan.{scanned}
use Rattle.scan.specs.laws.Scan.{scanned_input, scanned_output, served_says, service_empty}
use Rattle.calls.specs.declared.call.Act.TheVariants.{Inspect}
use Rattle.calls.specs.Events.{Single, sets_up, does, result, after, run_singles, counted}
use Rattle.calls.specs.laws.Singles.{singles_single, sweep_counts}
use Rattle.calls.proofs.laws.Singles.{run_singles_lem}
use Rattle.calls.specs.laws.Places.{setup_places}
use Rattle.calls.proofs.laws.Places.{keeps_places}
use Rattle.door.specs.laws.Door.{made_run}
use Rattle.waiting.specs.Counting.{turn_at, service_at, input_at, output_at, takes_at, holds_at}
use Rattle.waiting.specs.Waiting.{P, Running, Holds, Empty, Takes, Arrived, ServiceTurn, Stops, inspections, inputs, While, Ended, Lasts, WithinP, InputServed, Replacement, Served, Replaced, Fate, HeldCharacter, FirstBound, WithinKP, Echo, OutputServed, OutputFate, EmptyTransmitter, SecondBound, Rotation, Places, Demand}
use Rattle.waiting.proofs.laws.View.{Stays, Leaves, leaves_same, Tested, View, turn, arrives, clear, stop, quiet, view, turn_moves}
use Rattle.waiting.proofs.laws.Tests.{counts_names, tests, arriving}
use Rattle.waiting.proofs.laws.Balance.{uncounted, elsewhere, own_left, keeps_place, balance, not_again}

-- the scan position of a world
abbrev at : World → ℕ
at w = w.mux.pos

-- ---- any wait

module _ (p : ℕ) (own barred : World → Single → Bool) (C : World → Type 0) (End : World → Single → Type 0) where
  -- what must be known of a wait at port p, where C holds until End: it goes on where port p is left, a stop ends it, neither what is no turn
  -- nor another port's turn is barred, and what an arrival and port p's own turn do to it
  record Wait : Type 0 where
    left : (w v : World) → Leaves (port_at w.mux p) (port_at v.mux p) → C w → C v
    stopped : (w : World) (a : Single) → Stops w a → End w a
    no_turn : (w : World) (a : Single) → takes_at p w a ≡ false → counted w a ≡ false → barred w a ≡ false
    other_turn : (w : World) (a : Single) → takes_at p w a ≡ false → result w a ≡ scanned w.mux w.memory → (at w ≡ p → ⊥) → barred w a ≡ false
    arrival : (w : World) (a : Single) → C w → counted w a ≡ false → (t : Takes p w a) → (Empty p w → Empty p (after w a)) → (p < length w.mux.port → Arrived p w a t) → (holds_at p w ≡ true → Marked (port_at (after w a).mux p)) → End w a ⊎ (C (after w a) × (barred w a ≡ false))
    own_turn : (w : World) (a : Single) → C w → a ≡ does Inspect → at w ≡ p → result w a ≡ scanned w.mux w.memory → End w a ⊎ (C (after w a) × ((own w a ≡ true) × (barred w a ≡ false)))

  -- it goes on in a running unit of N ports
  record On (N : ℕ) (w : World) : Type 0 where
    running : Running w
    ports : P w ≡ N
    meanwhile : C w

  -- the position is below N
  on_below : (N : ℕ) (w : World) → On N w → at w < N
  on_below N w o = rw (← o.ports) o.running.sound.position

  -- what a single thing does to it
  abbrev Goes' : ℕ → World → Single → Type 0
  Goes' N = Goes after at N p counted own barred (On N) End

  goes : Wait → (N : ℕ) (w : World) (a : Single) → On N w → Goes' N w a
  goes k N w a o = go (view p w a)
    where
      -- no turn
      stays : barred w a ≡ false → counted w a ≡ false → Stays w (after w a) → C (after w a) → Goes' N w a
      stays f n s c = rests (record { running = s.running o.running; ports = s.ports ∙ o.ports; meanwhile = c }) f n s.pos

      -- a turn
      moves : barred w a ≡ false → counted w a ≡ true → result w a ≡ scanned w.mux w.memory → C (after w a) → (at w ≡ p → own w a ≡ true) → Goes' N w a
      moves f n t c spent =
          let m = turn_moves p w a t in
          passes
          (record { running = m.running o.running; ports = m.ports ∙ o.ports; meanwhile = c })
          f
          n
          spent
          (m.pos ∙ ap (λ x. (at w + 1) % x) o.ports)

      owned : counted w a ≡ true → result w a ≡ scanned w.mux w.memory → End w a ⊎ (C (after w a) × ((own w a ≡ true) × (barred w a ≡ false))) → Goes' N w a
      owned n t (inl e) = ends e
      owned n t (inr c) = moves c.1.1 n t c.0 (λ e. c.1.0)

      turned : Dec (at w ≡ p) → a ≡ does Inspect → Tested p w a true false false → result w a ≡ scanned w.mux w.memory → Goes' N w a
      turned (yes e) i d t = owned d.counts t (k.own_turn w a o.meanwhile i e t)
      turned (no h) i d t =
          moves (k.other_turn w a d.takes t h) d.counts t
          (k.left w (after w a) (leaves_same _ _ ((turn_moves p w a t).other h)) o.meanwhile)
          (λ e. absurd (h e))

      came : counted w a ≡ false → Stays w (after w a) → End w a ⊎ (C (after w a) × (barred w a ≡ false)) → Goes' N w a
      came n s (inl f) = ends f
      came n s (inr c) = stays c.1 n s c.0

      go : View p w a → Goes' N w a
      go (turn d c t) = turned (ℕ_discrete (at w) p) c.look d t
      go (arrives d c s e i m) = came d.counts s (k.arrival w a o.meanwhile d.counts c e i m)
      go (clear d c s h) = ends (k.stopped w a s)
      go (stop d b s l) = ends (k.stopped w a s)
      go (quiet d s l) = stays (k.no_turn w a d.takes d.counts) d.counts s (k.left w (after w a) l o.meanwhile)

  -- so over any list it ended or lasts, within the bound that the turns give
  waits_for : Wait → (Bound : World → List Single → Type 0) (w : World) (xs : List Single) → Running w → p < P w → C w → ((ys : List Single) → Within after at (P w) p counted own barred (On (P w)) End (P w - 1) w ys → Bound w ys) → Ended C Bound End w xs ⊎ Lasts C Bound w xs
  waits_for k Bound w xs r b c each =
      go (bound after at (P w) p counted own barred (On (P w)) End (on_below (P w)) (goes k (P w)) w xs b (record { running = r; ports = refl; meanwhile = c }))
    where
      meant : (v : World) → On (P w) v → While C v
      meant v o = (o.running, o.meanwhile)

      go : Outcome after at (P w) p counted own barred (On (P w)) End (P w - 1) w xs → Ended C Bound End w xs ⊎ Lasts C Bound w xs
      go (ended u e f) = inl (record { wait = until_map after (On (P w)) (While C) meant w xs u; bound = each u.before f; end = e })
      go (waits t f) = inr (record { still = throughout_map after (On (P w)) (While C) meant w xs t; bound = each xs f })

-- a wait by what ended it
ended_by : {C : World → Type 0} {Bound : World → List Single → Type 0} {End : World → Single → Type 0} (By : World → Single → Type 0) {w : World} {xs : List Single} (u : Ended C Bound End w xs) → By (run_singles w u.wait.before) u.wait.here → Ended C Bound By w xs
ended_by By u e = record { wait = u.wait; bound = u.bound; end = e }

-- ---- a held character

-- a single thing that ends its wait
data HeldEnd (p : ℕ) (w : World) (a : Single) : Type 0 where
  taken : InputServed p w a → HeldEnd p w a
  pushed : Replacement p w a → HeldEnd p w a
  stopped : Stops w a → HeldEnd p w a

-- no own turn is spent on anything else
none : World → Single → Bool
none w a = false

-- it ends by port p's own turn, which takes it, and by an arrival
held_wait : (p : ℕ) (c : Character) → p < MOST-PORTS → Wait p none (takes_at p) (Holds p c) (HeldEnd p)
held_wait p c b =
    record {
      left = λ w v l h. record { held = l.held ∙ h.held; same = l.same ∙ h.same };
      stopped = λ w a s. HeldEnd.stopped s;
      no_turn = λ w a n c. n;
      other_turn = λ w a n t e. n;
      arrival = λ w a h n k f i m. inl (pushed (record { later = k; arrived = i (held_inside w.mux p h.held); mark = (m h.held).mark }));
      own_turn = λ w a h i e t. inl (taken (record {
        turn = record { look = i; position = e; rules = t ∙ scanned_input w.mux w.memory (ap (λ x. holds_at x w) e ∙ h.held) };
        once = not_again p (after w a) b (keeps_place p b w a (held_inside w.mux p h.held)) (ap (λ x. holds_at x (after w a)) (sym e) ∙ own_left w a t);
      }));
    }

-- what becomes of a held character
input_fate : HeldCharacter
unfolding none
input_fate w p c xs r b h =
    fate (waits_for p none (takes_at p) (Holds p c) (HeldEnd p) (held_wait p c (omega (arith, r.sound.setting.size.few_ports))) (WithinP p) w xs r b h
    (λ ys f. record { alone = f.none_barred; soon = omega (arith, rw (never after w ys) at f.few) }))
  where
    at-end : (u : Ended (Holds p c) (WithinP p) (HeldEnd p) w xs) → HeldEnd p (run_singles w u.wait.before) u.wait.here → Fate p c w xs
    at-end u (taken e) = Fate.served (ended_by (InputServed p) u e)
    at-end u (pushed e) = Fate.replaced (ended_by (Replacement p) u e)
    at-end u (HeldEnd.stopped e) = Fate.broken (ended_by Stops u e)

    fate : Ended (Holds p c) (WithinP p) (HeldEnd p) w xs ⊎ Lasts (Holds p c) (WithinP p) w xs → Fate p c w xs
    fate (inl u) = at-end u u.end
    fate (inr l) = Fate.waits l

-- ---- an empty transmitter

-- a single thing that ends its wait
data FreeEnd (p : ℕ) (w : World) (a : Single) : Type 0 where
  given : ServiceTurn Output p w a → FreeEnd p w a
  filled : Echo p w a → FreeEnd p w a
  stopped : Stops w a → FreeEnd p w a

-- a port's own turn, its transmitter empty: output, or input with an echo, or input that leaves it empty
own_free : (w : World) (a : Single) → a ≡ does Inspect → result w a ≡ scanned w.mux w.memory → Empty (at w) w → FreeEnd (at w) w a ⊎ (Empty (at w) (after w a) × ((input_at (at w) w a ≡ true) × (output_at (at w) w a ≡ false)))
unfolding service_at
own_free w a i t h = go (port_at w.mux (at w)).held refl
  where
    -- a turn that goes to input
    input : holds_at (at w) w ≡ true → ServiceTurn Input (at w) w a
    input e = record { look = i; position = refl; rules = t ∙ scanned_input w.mux w.memory e }

    -- leaves the transmitter empty unless it handed a byte over
    left : (k : ServiceTurn Input (at w) w a) (sent : Bool) → (result w a).reply.answer.sent ≡ sent → (port_at (after w a).mux (at w)).empty ≡ not sent
    left k sent s =
        ap (λ l. (port_at l.world.mux (at w)).empty) k.rules
        ∙ service_empty Input w.mux w.memory (empty_inside w.mux (at w) h)
        ∙ rw (h, ← ap (λ l. l.reply.answer.sent) k.rules, s)

    took : (k : ServiceTurn Input (at w) w a) (sent : Bool) → (result w a).reply.answer.sent ≡ sent → FreeEnd (at w) w a ⊎ (Empty (at w) (after w a) × ((input_at (at w) w a ≡ true) × (output_at (at w) w a ≡ false)))
    took k true s = inl (filled (record { input = k; sent = s; full = left k true s }))
    took k false s = inr (left k false s, ((tests.serving Input (at w) w a).1 k, rw (k.rules, served_says Input w.mux w.memory)))

    go : (held : Bool) → holds_at (at w) w ≡ held → FreeEnd (at w) w a ⊎ (Empty (at w) (after w a) × ((input_at (at w) w a ≡ true) × (output_at (at w) w a ≡ false)))
    go false e = inl (given (record { look = i; position = refl; rules = t ∙ scanned_output w.mux w.memory e h }))
    go true e = took (input e) (result w a).reply.answer.sent refl

-- it goes on where a character arrives
free_wait : (p : ℕ) → Wait p (input_at p) (output_at p) (Empty p) (FreeEnd p)
free_wait p =
    record {
      left = λ w v l h. l.empty h;
      stopped = λ w a s. FreeEnd.stopped s;
      no_turn = λ w a n c. uncounted Output p w a c;
      other_turn = λ w a n t e. elsewhere w a t Output p e;
      arrival = λ w a h n k f i m. inr (f h, uncounted Output p w a n);
      own_turn = λ w a h i e t. subst (λ (x : ℕ). Empty x w → FreeEnd x w a ⊎ (Empty x (after w a) × ((input_at x w a ≡ true) × (output_at x w a ≡ false)))) e (own_free w a i t) h;
    }

-- what becomes of an empty transmitter
output_fate : EmptyTransmitter
output_fate w p xs r b h =
    fate (waits_for p (input_at p) (output_at p) (Empty p) (FreeEnd p) (free_wait p) (WithinKP p) w xs r b h
    (λ ys f. record { unserved = f.none_barred; soon = omega (arith, f.few) }))
  where
    at-end : (u : Ended (Empty p) (WithinKP p) (FreeEnd p) w xs) → FreeEnd p (run_singles w u.wait.before) u.wait.here → OutputFate p w xs
    at-end u (given e) = OutputFate.served (ended_by (ServiceTurn Output p) u e)
    at-end u (filled e) = OutputFate.echoed (ended_by (Echo p) u e)
    at-end u (FreeEnd.stopped e) = OutputFate.broken (ended_by Stops u e)

    fate : Ended (Empty p) (WithinKP p) (FreeEnd p) w xs ⊎ Lasts (Empty p) (WithinKP p) w xs → OutputFate p w xs
    fate (inl u) = at-end u u.end
    fate (inr l) = OutputFate.waits l

-- ---- every port has its turn

-- a list of single things that turns alone move on
abbrev AllMove : ℕ → World → List Single → Type 0
AllMove N w xs = Every after (Moves after at N counted) w xs

-- a world in which the unit runs
abbrev Runs : World → Type 0
Runs w = w.mux.runs ≡ true

-- the first of the worlds that a list meets
met_first : (C : World → Type 0) (w : World) (xs : List Single) → Throughout after C w xs → C w
met_first C w [] c = c
met_first C w (a ∷ xs) c = c.0

-- while the unit runs, turns move the position and nothing else does
every_moves : (N : ℕ) (w : World) (xs : List Single) → Sound w.mux → P w ≡ N → Throughout after Runs w xs → AllMove N w xs
every_moves N w [] r e b = tt
every_moves N w (a ∷ xs) s e b = go (view 0 w a) (every_moves N (after w a) xs)
  where
    running : Running w
    running = record { sound = s; runs = b.0 }

    stays : counted w a ≡ false → Stays w (after w a) → (Sound (after w a).mux → P (after w a) ≡ N → Throughout after Runs (after w a) xs → AllMove N (after w a) xs) → AllMove N w (a ∷ xs)
    stays n k rest = (
      record { on = λ c. absurd (true≢false (sym c ∙ n)); stays = λ c. k.pos },
      rest (k.running running).sound (k.ports ∙ e) b.1,
    )

    stopped : Stops w a → AllMove N w (a ∷ xs)
    stopped n = absurd (true≢false (sym (met_first Runs (after w a) xs b.1) ∙ n))

    go : View 0 w a → (Sound (after w a).mux → P (after w a) ≡ N → Throughout after Runs (after w a) xs → AllMove N (after w a) xs) → AllMove N w (a ∷ xs)
    go (turn d c t) rest =
        let m = turn_moves 0 w a t in (
          record { on = λ n. m.pos ∙ ap (λ x. (at w + 1) % x) e; stays = λ n. absurd (true≢false (sym d.counts ∙ n)) },
          rest (m.running running).sound (m.ports ∙ e) b.1,
        )
    go (arrives d c k f i m) rest = stays d.counts k rest
    go (clear d c n h) rest = stopped n
    go (stop d b n l) rest = stopped n
    go (quiet d k l) rest = stays d.counts k rest

-- port p's turn is a turn with the position at p
turn_at_lem : (p : ℕ) (w : World) (a : Single) → turn_at p w a ≡ (counted w a && eqb (at w) p)
unfolding turn_at
turn_at_lem p w a = go (counted w a) refl
  where
    go : (c : Bool) → counted w a ≡ c → (counted w a && eqb (result w a).reply.answer.port p) ≡ (counted w a && eqb (at w) p)
    go true e = ap (λ x. counted w a && eqb x p) (counts_names w a ((tests.counting w a).0 e))
    go false e = rw e

-- in P turns each port has one
each_port_once : Rotation
each_port_once w xs p s h b e =
    total_same after (λ v a. bit (turn_at p v a)) (λ v a. bit (counted v a && eqb (at v) p)) (λ v a. ap bit (turn_at_lem p v a)) w xs
    ∙ each_once after at (P w) counted p w xs h s.position (every_moves (P w) w xs s refl b) e

-- ---- the sentences of the demand

-- what a setup made has its 128 ports
since_places : Places
since_places w s =
    rw s.now (run_keeps after (λ v. AllPorts v.mux) keeps_places (after s.before (sets_up s.setting)) s.since (setup_places s.before s.setting s.accepted))

-- the first bound
arrived_fate : FirstBound (λ v. AllPorts v.mux)
arrived_fate v p a xs n r k calm enough = go (view p v a)
  where
    w : World
    w = after v a

    c : Character
    c = (port_at w.mux p).ch

    fate : Fate p c w xs → Served p c w xs ⊎ Replaced p c w xs
    fate (Fate.served f) = inl f
    fate (Fate.replaced f) = inr f
    fate (Fate.broken f) = absurd (calm f)
    fate (Fate.waits f) = absurd (omega (arith, f.bound.soon))

    other : takes_at p v a ≡ false → Served p c w xs ⊎ Replaced p c w xs
    other e = absurd (true≢false (sym ((tests.taking p v a).1 k) ∙ e))

    go : View p v a → Served p c w xs ⊎ Replaced p c w xs
    go (arrives d t s e i m) =
        let few = r.sound.setting.size.few_ports in
        fate (input_fate w p c xs (s.running r) (rw s.ports k.below) (record { held = ap (λ q. q.held) (i (omega (arith, n, k.below))); same = refl }))
    go (turn d t e) = other d.takes
    go (clear d c s h) = other d.takes
    go (stop d b s l) = other d.takes
    go (quiet d s l) = other d.takes

-- the second bound
handed_fate : SecondBound
unfolding bit
handed_fate w p k xs r b e few no_echo calm enough = go (output_fate w p xs r b e)
  where
    go : OutputFate p w xs → (h : OutputServed p w xs) × (inspections w h.wait.before < (k + 1) * P w)
    go (OutputFate.served s) =
        let i : inputs p w s.wait.before + 1 ≤ k + 1 = omega (arith, until_le after (λ v a. bit (input_at p v a)) (While (Empty p)) w xs s.wait) in
        (s, omega (arith, s.bound.soon, mul-le-mul_right (P w) i))
    go (OutputFate.echoed s) = absurd (no_echo s)
    go (OutputFate.broken s) = absurd (calm s)
    go (OutputFate.waits s) =
        let i : inputs p w xs + 1 ≤ k + 1 = omega arith in
        absurd (omega (arith, s.bound.soon, mul-le-mul_right (P w) i))

-- demand 3
pub demand : Demand
demand =
    record {
      input = input_fate;
      first_bound = λ v p a xs s. arrived_fate v p a xs (since_places v s);
      any_record = arrived_fate;
      output = output_fate;
      second_bound = handed_fate;
      tests = tests;
      arrivals = arriving;
      rotation = each_port_once;
      balance = λ w p xs n b. balance p w xs b (rw n b);
      places = since_places;
      events = run_singles_lem;
      windows = singles_single;
      door = λ w v es m. made_run m ∙ run_singles_lem w es;
      sweeps = sweep_counts;
    }
