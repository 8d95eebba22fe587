-- What one single thing does to port p, of any world, sound or not, running or not: the one case analysis of demand 3. Nothing here depends on what a service does.
--   Stays, Leaves         the position stays, and a unit that runs runs on; a port holds what it held, an empty transmitter stays empty
--   Tested, View, view    how the tests come out; a turn; a character that port p takes; a reset or new setup; a stop; or something that leaves
--                         port p
--   Moved, turn_moves     what a turn does to a running unit
-- Not here: which turn it is, in scan, laws/Scan.
-- Assumes nothing.
use Rattle.std.specs.Prelude.{◌≡◌, Bool, true, false, ◌&&◌, List, [], ◌∷◌, map, ◌⊎◌, ℕ, zero, suc, ◌+◌, ◌%◌, ◌<◌, eqb, length, replicate}
use Rattle.std.proofs.Math.Path.{refl, ap}
use Rattle.std.proofs.Common.{sym, ◌∙◌, subst, inl, inr, eq-eqb, ne_eqb}
use Rattle.std.proofs.Math.Bool.{and-true, and-false}
use Rattle.std.proofs.Math.Decide.{ℕ_discrete}
use Rattle.std.proofs.Math.ListN.{get_or}
use Rattle.ground.specs.Choose.{pick}
use Rattle.unit.specs.declared.mux.Setting.{Setting}
use Rattle.unit.specs.declared.mux.Port.{Port}
use Rattle.unit.specs.declared.mux.Mux.{Mux}
use Rattle.unit.specs.Record.{no_port, fresh_port, fresh, port_at}
use Rattle.unit.specs.Reply.{counts, refused, accepted, World, Looked, looked}
use Rattle.unit.specs.Refusals.{refusal, of_setup, of_unit, of_port}
use Rattle.unit.proofs.laws.Replies.{setup_accepted}
use Rattle.unit.proofs.laws.Sound.{sound_iff, port_iff, inspection_iff}
use Rattle.unit.specs.laws.Ports.{empty_inside}
use Rattle.lines.specs.declared.signal.Signal.{Signal}
use Rattle.lines.specs.declared.signal.Signal.TheVariants.{Arrival, TransmitterEmpty, DeviceStatus}
use Rattle.lines.specs.Lines.{signalled, line}
use Rattle.lines.specs.laws.Lines.{line_refused, line_accepted, Marked}
use Rattle.lines.proofs.laws.Lines.{line_keeps, line_sound, line_written, arrived, replaced}
use Rattle.processor.specs.declared.orders.Order.{Order}
use Rattle.processor.specs.declared.orders.Order.TheVariants.{Reset, Iopls, Start, Doc, Dob, Dia, Dias, Tick}
use Rattle.processor.specs.Processor.{reset_port, order, is_reset}
use Rattle.processor.specs.Processor as Processor
use Rattle.processor.specs.laws.Processor.{order_refused, order_accepted, stops}
use Rattle.processor.proofs.laws.Processor.{order_keeps, order_stays_sound, runs_on}
use Rattle.scan.specs.Scan.{scanned}
use Rattle.scan.specs.laws.Scan.{Kind, takes_turn, stands_still, moves_sound}
use Rattle.scan.proofs.laws.Scan.{kind, scan_moves}
use Rattle.calls.specs.declared.call.Act.TheVariants.{Line, Processor, Inspect}
use Rattle.calls.specs.Calls.{setting_up, set_up, performed, step_of, given_of}
use Rattle.calls.proofs.laws.Refusals.{step_refuses}
use Rattle.calls.specs.Events.{Single, sets_up, does, writes, result, after, counted}
use Rattle.waiting.specs.Counting.{unrefused, is_arrival, brings_to, is_clear, takes_at}
use Rattle.waiting.specs.Waiting.{P, Running, Empty, Takes, Arrived, Stops, Counts, Clears, reset, setup, Breaks}

-- the position stays, and a unit that runs runs on
pub record Stays (w v : World) : Type 0 where
  pub running : Running w → Running v
  pub ports : P v ≡ P w
  pub pos : v.mux.pos ≡ w.mux.pos

-- a port that holds what it held, and whose transmitter is still empty if it was
pub record Leaves (x y : Port) : Type 0 where
  pub held : y.held ≡ x.held
  pub same : y.ch ≡ x.ch
  pub empty : x.empty ≡ true → y.empty ≡ true

module _ (p : ℕ) (w : World) (a : Single) where
  -- port p before and after
  abbrev now : Port
  now = port_at w.mux p

  abbrev then : Port
  then = port_at (after w a).mux p

  -- how the tests come out
  pub record Tested (count take clear : Bool) : Type 0 where
    pub counts : counted w a ≡ count
    pub takes : takes_at p w a ≡ take
    pub clears : is_clear a && unrefused w a ≡ clear

  -- what a single thing does
  pub data View : Type 0 where
    turn : Tested true false false → Counts w a → result w a ≡ scanned w.mux w.memory → View
    arrives : Tested false true false → (t : Takes p w a) → Stays w (after w a) → (Empty p w → Empty p (after w a)) → (p < length w.mux.port → Arrived p w a t) → (now.held ≡ true → Marked then) → View
    clear : Tested false false true → Clears w a → Stops w a → then.held ≡ false → View
    stop : Tested false false false → Breaks w a → Stops w a → Leaves now then → View
    quiet : Tested false false false → Stays w (after w a) → Leaves now then → View

-- a port that is as it was
pub leaves_same : (x y : Port) → y ≡ x → Leaves x y
leaves_same x y e = rw e (record { held = refl; same = refl; empty = λ i. i })

-- ---- refused or not

-- what leaves everything
same_view : (p : ℕ) (w : World) (a : Single) (k : ℕ) → Tested p w a false false false → result w a ≡ looked (refused k w.mux) w.memory → View p w a
same_view p w a k t e =
    quiet t
    (subst (λ (v : World). Stays w v) (sym (ap (λ l. l.world) e)) (record { running = λ r. r; ports = refl; pos = refl }))
    (leaves_same _ _ (ap (λ l. port_at l.world.mux p) e))

-- a refused single thing passes no test
refused_view : (p : ℕ) (w : World) (a : Single) (k : ℕ) → (k ≡ 0 → ⊥) → result w a ≡ looked (refused k w.mux) w.memory → View p w a
unfolding counted counts unrefused takes_at
refused_view p w a k h e = same_view p w a k (record { counts = rw e; takes = no (brings_to p a); clears = no (is_clear a) }) e
  where
    no : (b : Bool) → b && unrefused w a ≡ false
    no b = rw (e, ne_eqb k 0 h) (and-false b)

-- an accepted one that is no inspection: each test is what is asked
accepts : (p : ℕ) (w : World) (a : Single) (v : ℕ) (u : Mux) → result w a ≡ looked (accepted v u) w.memory → Tested p w a false (brings_to p a) (is_clear a)
unfolding counted counts unrefused takes_at
accepts p w a v u e = record { counts = rw e; takes = yes (brings_to p a); clears = yes (is_clear a) }
  where
    yes : (b : Bool) → b && unrefused w a ≡ b
    yes b = rw e (and-true b)

-- ---- a setup

-- no port of a fresh unit holds anything
fresh_held : (n p : ℕ) → (get_or (replicate n fresh_port) p no_port).held ≡ false
fresh_held zero p = refl
fresh_held (suc n) zero = refl
fresh_held (suc n) (suc p) = fresh_held n p

-- a setup that is taken drops everything, and a refused one leaves the record that stands
setup_view : (p : ℕ) (w : World) (s : Setting) → View p w (sets_up s)
unfolding result set_up pick brings_to is_clear port_at step_of given_of
setup_view p w s = go (ℕ_discrete (refusal (of_setup s)) 0)
  where
    go : Dec (refusal (of_setup s) ≡ 0) → View p w (sets_up s)
    go (no h) =
        refused_view p w (sets_up s) _ h (ap (λ o. record { reply = o.reply; world = o.world }) ((step_refuses w [] (setting_up s)).keeps h))
    go (yes z) =
        clear (accepts p w (sets_up s) 0 (fresh s) (rw (setup_accepted s z))) (setup s z refl) (rw (setup_accepted s z)) (rw (setup_accepted s z) (fresh_held 128 p))

-- ---- the lines

module _ (w : World) (q : ℕ) (e : Signal) where
  -- a signal leaves the position, and a unit that runs runs on
  pub line_stays : Stays w (after w (does (Line q e)))
  unfolding result performed
  line_stays =
      let k = line_keeps w.mux q e in
      record {
        running = λ r. record { sound = line_sound w.mux q e r.sound; runs = k.runs ∙ r.runs };
        ports = ap (λ s. s.ports) k.setting;
        pos = k.pos;
      }

  -- one that is not refused
  pub takes_line : (p : ℕ) → refusal (of_port w.mux q) ≡ 0 → Tested p w (does (Line q e)) false (eqb q p && is_arrival e) false
  unfolding result performed brings_to is_clear
  takes_line p z = accepts p w (does (Line q e)) 0 _ (ap (λ r. looked r w.memory) (line_accepted w.mux q e z))

  -- it is quiet where it brings no character to port p and leaves what that port holds
  line_quiet : (p : ℕ) → refusal (of_port w.mux q) ≡ 0 → eqb q p && is_arrival e ≡ false → Leaves (port_at w.mux p) (port_at (line w.mux q e).mux p) → View p w (does (Line q e))
  unfolding result performed
  line_quiet p z n l = quiet (rw n at (takes_line p z)) line_stays l

-- at port p itself, a signal that leaves what it holds
own_quiet : (p : ℕ) (w : World) (e : Signal) → refusal (of_port w.mux p) ≡ 0 → is_arrival e ≡ false → Leaves (port_at w.mux p) (signalled (port_at w.mux p) e) → View p w (does (Line p e))
own_quiet p w e z n l = line_quiet w p e p z (rw n (and-false (eqb p p))) (go (line_written w.mux p e))
  where
    go : (port_at (line w.mux p e).mux p ≡ signalled (port_at w.mux p) e) ⊎ (port_at (line w.mux p e).mux p ≡ port_at w.mux p) → Leaves (port_at w.mux p) (port_at (line w.mux p e).mux p)
    go (inl g) = rw g l
    go (inr g) = leaves_same _ _ g

-- at port p itself: a character replaces one that was held, with the mark; no other signal touches what is held
own_line : (p : ℕ) (w : World) (e : Signal) → refusal (of_port w.mux p) ≡ 0 → View p w (does (Line p e))
unfolding result performed is_arrival signalled
own_line p w (Arrival c parity brk) z =
    let s = (port_iff w.mux p).0 z in
    arrives
    (rw (eq-eqb p p refl) at (takes_line w p (Arrival c parity brk) p z))
    (record { byte = c; parity = parity; brk = brk; arrival = refl; sound = s.0; below = s.1 })
    (line_stays w p (Arrival c parity brk))
    (λ f. ap (λ y. y.empty) (arrived w.mux p c parity brk z (empty_inside w.mux p f)) ∙ f)
    (arrived w.mux p c parity brk z)
    (λ h. replaced w.mux p c parity brk h z)
own_line p w TransmitterEmpty z = own_quiet p w TransmitterEmpty z refl (record { held = refl; same = refl; empty = λ i. refl })
own_line p w (DeviceStatus level) z = own_quiet p w (DeviceStatus level) z refl (record { held = refl; same = refl; empty = λ i. i })

-- a signal: refused, at another port, or at port p
line_view : (p : ℕ) (w : World) (q : ℕ) (e : Signal) → View p w (does (Line q e))
unfolding result performed
line_view p w q e = go (ℕ_discrete (refusal (of_port w.mux q)) 0) (ℕ_discrete q p)
  where
    go : Dec (refusal (of_port w.mux q) ≡ 0) → Dec (q ≡ p) → View p w (does (Line q e))
    go (no h) d = refused_view p w (does (Line q e)) _ h (ap (λ r. looked r w.memory) (line_refused w.mux q e h))
    go (yes z) (no h) = line_quiet w q e p z (rw (ne_eqb q p h)) (leaves_same _ _ ((line_keeps w.mux q e).others p (λ g. h (sym g))))
    go (yes z) (yes g) = rw g (own_line p w e (rw g at z))

-- ---- the processor

-- no port holds anything after reset
reset_held : (l : List Port) (p : ℕ) → (get_or (map reset_port l) p no_port).held ≡ false
unfolding reset_port
reset_held [] p = refl
reset_held (q ∷ l) zero = refl
reset_held (q ∷ l) (suc p) = reset_held l p

module _ (p : ℕ) (w : World) where
  -- every order but reset leaves port p
  order_leaves : (o : Order) → is_reset o ≡ false → Leaves (port_at w.mux p) (port_at (order w.mux o).mux p)
  unfolding port_at
  order_leaves o h = leaves_same _ _ (ap (λ l. get_or l p no_port) (order_keeps w.mux o h).port)

  -- an order that is not refused
  takes_order : (o : Order) → refusal (of_unit w.mux) ≡ 0 → Tested p w (does (Processor o)) false false (is_reset o)
  unfolding result performed brings_to is_clear
  takes_order o z = accepts p w (does (Processor o)) _ _ (ap (λ r. looked r w.memory) (order_accepted w.mux o z))

  -- an order that neither resets nor stops the unit
  order_quiet : (o : Order) → is_reset o ≡ false → stops o ≡ false → refusal (of_unit w.mux) ≡ 0 → View p w (does (Processor o))
  unfolding result performed
  order_quiet o h n z =
      let k = order_keeps w.mux o h in
      quiet
      (rw h at (takes_order o z))
      (record {
        running = λ r. record { sound = order_stays_sound w.mux o r.sound; runs = runs_on w.mux o n r.runs };
        ports = ap (λ s. s.ports) k.setting;
        pos = k.pos;
      })
      (order_leaves o h)

  -- each order, not refused
  own_order : (o : Order) → refusal (of_unit w.mux) ≡ 0 → View p w (does (Processor o))
  unfolding result performed port_at Processor.after
  own_order Reset z =
      clear (takes_order Reset z)
      (reset ((sound_iff w.mux).0 z) refl)
      (rw (order_accepted w.mux Reset z))
      (rw (order_accepted w.mux Reset z) (reset_held w.mux.port p))
  own_order Dob z =
      stop (takes_order Dob z) (Breaks.stop ((sound_iff w.mux).0 z) refl) (rw (order_accepted w.mux Dob z)) (order_leaves Dob refl)
  own_order Iopls z = order_quiet Iopls refl refl z
  own_order Start z = order_quiet Start refl refl z
  own_order Doc z = order_quiet Doc refl refl z
  own_order Dia z = order_quiet Dia refl refl z
  own_order Dias z = order_quiet Dias refl refl z
  own_order Tick z = order_quiet Tick refl refl z

  -- an order
  order_view : (o : Order) → View p w (does (Processor o))
  unfolding result performed
  order_view o = go (ℕ_discrete (refusal (of_unit w.mux)) 0)
    where
      go : Dec (refusal (of_unit w.mux) ≡ 0) → View p w (does (Processor o))
      go (yes z) = own_order o z
      go (no h) = refused_view p w (does (Processor o)) _ h (ap (λ r. looked r w.memory) (order_refused w.mux o h))

-- ---- an inspection, and a host write

-- an inspection is no arrival and no reset
inspect_tests : (p : ℕ) (w : World) (b : Bool) → counted w (does Inspect) ≡ b → Tested p w (does Inspect) b false false
unfolding takes_at brings_to is_clear
inspect_tests p w b e = record { counts = e; takes = refl; clears = refl }

-- a turn, or nothing at all
inspect_view : (p : ℕ) (w : World) → View p w (does Inspect)
unfolding result performed counted counts
inspect_view p w = go (kind w.mux w.memory)
  where
    go : Kind w.mux w.memory → View p w (does Inspect)
    go (takes_turn e r t) =
        let s = (inspection_iff w.mux w.memory).0 e in
        turn
        (inspect_tests p w true (rw t (scan_moves w.mux w.memory).is_turn))
        (record { look = refl; running = record { sound = s.0; runs = r }; words = s.1 })
        t
    go (stands_still k e t) = same_view p w (does Inspect) k (inspect_tests p w false (ap (λ l. counts l.reply.answer.turn) t)) t

-- the memory is no part of what waits
write_view : (p : ℕ) (w : World) (m : List ℕ) → View p w (writes m)
unfolding result counted counts takes_at brings_to is_clear
write_view p w m =
    quiet
    (record { counts = refl; takes = refl; clears = refl })
    (record { running = λ r. record { sound = r.sound; runs = r.runs }; ports = refl; pos = refl })
    (leaves_same _ _ refl)

-- every single thing
pub view : (p : ℕ) (w : World) (a : Single) → View p w a
view p w (sets_up s) = setup_view p w s
view p w (does (Line q e)) = line_view p w q e
view p w (does (Processor o)) = order_view p w o
view p w (does Inspect) = inspect_view p w
view p w (writes m) = write_view p w m

-- ---- a turn

-- the unit runs on, one position further; every port but the one whose turn it was is as it was
pub record Moved (p : ℕ) (w v : World) : Type 0 where
  pub running : Running w → Running v
  pub ports : P v ≡ P w
  pub pos : v.mux.pos ≡ (w.mux.pos + 1) % P w
  pub other : (w.mux.pos ≡ p → ⊥) → port_at v.mux p ≡ port_at w.mux p

-- every turn
pub turn_moves : (p : ℕ) (w : World) (a : Single) → result w a ≡ scanned w.mux w.memory → Moved p w (after w a)
turn_moves p w a e =
    let l = scanned w.mux w.memory in
    let t = scan_moves w.mux w.memory in
    subst (λ (x : Looked). Moved p w x.world) (sym e)
    (record {
      running = λ r. record { sound = moves_sound w.mux w.memory l t r.sound; runs = t.runs ∙ r.runs };
      ports = ap (λ s. s.ports) t.setting;
      pos = t.position;
      other = λ h. t.others p (λ g. h (sym g));
    })
