-- Laws of what the processor does (document 01, of that name), each said once over the order where it can be.
--   order_refused, order_accepted     an order that is refused, and one that is not; of a sound record none is
--   order_either                  what holds of the record itself and of the record after the order holds of the record that the call gives
--   Keeps, reset_only, order_keeps   every order but reset leaves setting, position and ports as they were
--   order_setting                 every order, reset among them, leaves the setting as it was
--   order_stays_sound, _ports     every order leaves a sound record sound, and the array of ports as long as it was
--   reset_is .. reset_bits        a unit after reset: at rest at port 0; each port's speed bits 000, its other control bits and its Device
--                                 Status line kept
--   stops, runs_on, runs_after    of a unit that runs: DOB and reset stop it, and no other order does
--   dob_is, doc_is                DOB stops a unit, DOC sets it going
--   dia_shows, start_is, dias_is   DIA shows what the unit's kind shows; START does what its kind does; DIAS is DIA, then START
--   tick_on, tick_off             a tick with the clock on and with it off
-- In proofs/laws/Processor, since they rest on these: order_keeps, order_unread, order_stays_sound, order_ports, runs_on, runs_after, start_clears,
-- start_removes.
-- Not here: laws of the interrupt side itself, in interrupt, laws/Interrupt; a run of many orders, in waiting.
-- Assumes nothing.
use Rattle.std.specs.Prelude.{◌≡◌, refl, Bool, true, false, List, [], ◌∷◌, map, ℕ, zero, suc, ◌<◌, length, get_or}
use Rattle.std.proofs.Common.{ap, sym, ◌∙◌, true≢false, arith}
use Rattle.std.proofs.Math.Decide.{ℕ_discrete}
use Rattle.ground.specs.laws.Rows.{pick_true, pick-false}
use Rattle.words.specs.Field.{get, bits, Whole}
use Rattle.words.specs.Codes.{SPEED, REAL-TIME}
use Rattle.words.specs.laws.Field.{whole, get-put, get_put_above}
use Rattle.interrupt.specs.declared.Kind.TheVariants.{MightyMux}
use Rattle.interrupt.specs.Interrupt as Interrupt
use Rattle.interrupt.specs.laws.Interrupt as Irqs
use Rattle.interrupt.specs.Stack.{remain}
use Rattle.unit.specs.declared.mux.Port.{Port}
use Rattle.unit.specs.declared.mux.Mux.{Mux}
use Rattle.unit.specs.Record.{no_port, port_at}
use Rattle.unit.specs.Reply.{refused, accepted}
use Rattle.unit.specs.Refusals.{refusal, of_unit}
use Rattle.unit.specs.Sound.{Sound}
use Rattle.unit.specs.laws.Sound.{sound_with}
use Rattle.unit.proofs.laws.Sound.{sound_iff}
use Rattle.unit.specs.laws.Replies.{guarded_refused, guarded_accepted}
use Rattle.unit.proofs.laws.Replies.{either_way}
use Rattle.processor.specs.declared.orders.Order.{Order}
use Rattle.processor.specs.declared.orders.Order.TheVariants.{Reset, Iopls, Start, Doc, Dob, Dia, Dias, Tick}
use Rattle.processor.specs.Processor.{reset_port, switched, reset_unit, value_of, after, order, is_reset}

-- ---- every order

-- a refused order gives its number and the same record
pub order_refused : (u : Mux) (o : Order) → (refusal (of_unit u) ≡ 0 → ⊥) → order u o ≡ refused (refusal (of_unit u)) u
unfolding order
order_refused u o h = guarded_refused _ u _ h

-- an order that is not refused gives its result and the record after it
pub order_accepted : (u : Mux) (o : Order) → refusal (of_unit u) ≡ 0 → order u o ≡ accepted (value_of o u.setting.kind u.irq) (after o u)
unfolding order
order_accepted u o e = guarded_accepted _ u _ e

-- a sound record's order is done
pub order_sound : (u : Mux) (o : Order) → Sound u → order u o ≡ accepted (value_of o u.setting.kind u.irq) (after o u)
order_sound u o s = order_accepted u o ((sound_iff u).1 s)

-- what holds of the record itself and of the record after the order holds of the record that the call gives
pub order_either : (C : Mux → Type 0) (u : Mux) (o : Order) → C u → C (after o u) → C (order u o).mux
unfolding order
order_either C u o a b = either_way C (refusal (of_unit u)) u _ a b

-- ---- what the orders keep

-- setting, position and every port as they were, and an interrupt side that was sound still sound
pub record Keeps (u v : Mux) : Type 0 where
  pub setting : v.setting ≡ u.setting
  pub pos : v.pos ≡ u.pos
  pub port : v.port ≡ u.port
  pub irq : Interrupt.unsound u.irq ≡ false → Interrupt.unsound v.irq ≡ false

pub keeps_same : (u : Mux) → Keeps u u
keeps_same u = record { setting = refl; pos = refl; port = refl; irq = λ e. e }

-- reset is the one order that drops what is held
pub reset_only : (o : Order) → is_reset o ≡ true → o ≡ Reset
reset_only Reset e = refl
reset_only Iopls e = absurd (true≢false (sym e))
reset_only Start e = absurd (true≢false (sym e))
reset_only Doc e = absurd (true≢false (sym e))
reset_only Dob e = absurd (true≢false (sym e))
reset_only Dia e = absurd (true≢false (sym e))
reset_only Dias e = absurd (true≢false (sym e))
reset_only Tick e = absurd (true≢false (sym e))

-- reset keeps the setting too, the set of special codes in it
pub order_setting : (u : Mux) (o : Order) → (order u o).mux.setting ≡ u.setting
unfolding after
order_setting u o = order_either (λ v. v.setting ≡ u.setting) u o refl (by o)
  where
    by : (r : Order) → (after r u).setting ≡ u.setting
    by Reset = refl
    by Iopls = refl
    by Start = refl
    by Doc = refl
    by Dob = refl
    by Dia = refl
    by Dias = refl
    by Tick = refl

-- what keeps is as sound as it was
pub keeps_sound : (u v : Mux) → Keeps u v → Sound u → Sound v
keeps_sound u v k s = sound_with u v k.setting (rw (k.pos, k.setting) s.position) k.irq s

-- ---- reset

-- reset is taken by a sound unit
pub reset_is : (u : Mux) → Sound u → order u Reset ≡ accepted 0 (reset_unit u)
unfolding after
reset_is u s = order_sound u Reset s

-- a unit after reset: stopped, clock off, the interrupt side a new unit's, at port 0
pub record AtRest (u : Mux) : Type 0 where
  pub stopped : u.runs ≡ false
  pub clock : u.clock ≡ false
  pub irq : u.irq ≡ Interrupt.fresh
  pub first : u.pos ≡ 0

pub reset_rests : (u : Mux) → Sound u → AtRest (order u Reset).mux
reset_rests u s = rw (reset_is u s) (record { stopped = refl; clock = refl; irq = Irqs.cleared_fresh u.irq; first = refl })

-- every port of the array after reset
pub reset_port_lem : (u : Mux) (p : ℕ) → Sound u → p < length u.port → port_at (order u Reset).mux p ≡ reset_port (port_at u p)
unfolding port_at
reset_port_lem u p s h = rw (reset_is u s) (mapped u.port p h)
  where
    mapped : (l : List Port) (n : ℕ) → n < length l → get_or (map reset_port l) n no_port ≡ reset_port (get_or l n no_port)
    mapped [] n e = absurd (omega arith)
    mapped (q ∷ l) zero e = refl
    mapped (q ∷ l) (suc n) e = mapped l n (omega arith)

-- the control bits other than the speed bits, 8 to 12
abbrev pub OTHERS : ℕ → ℕ
OTHERS control = get (bits 8 12) control

-- a port after reset: speed bits 000, the other control bits and the Device Status line as they were
pub record PortReset (q r : Port) : Type 0 where
  pub dropped : r.held ≡ false
  pub empty : r.empty ≡ true
  pub devcontrol : r.devcontrol ≡ true
  pub speed : get SPEED r.control ≡ 0
  pub others : OTHERS r.control ≡ OTHERS q.control
  pub devstatus : r.devstatus ≡ q.devstatus

pub reset_bits : (q : Port) → PortReset q (reset_port q)
unfolding reset_port
reset_bits q =
    let w : Whole SPEED = whole SPEED tt tt refl in
    record {
      dropped = refl;
      empty = refl;
      devcontrol = refl;
      speed = get-put SPEED 0 q.control w (omega arith);
      others = get_put_above SPEED (bits 8 12) 1 0 q.control refl w (omega arith);
      devstatus = refl;
    }

-- ---- what stops a unit

-- the orders that stop a unit that runs
abbrev pub stops : Order → Bool
stops Reset = true
stops Iopls = false
stops Start = false
stops Doc = false
stops Dob = true
stops Dia = false
stops Dias = false
stops Tick = false

-- DOB is taken by a sound unit, and stops it
pub dob_is : (u : Mux) → Sound u → order u Dob ≡ accepted 0 (switched u false u.clock u.irq)
unfolding after
dob_is u s = order_sound u Dob s

-- DOC is taken by a sound unit, and sets it going
pub doc_is : (u : Mux) → Sound u → order u Doc ≡ accepted 0 (switched u true u.clock u.irq)
unfolding after
doc_is u s = order_sound u Doc s

-- ---- DIA, START, DIAS, the tick

-- what DIA shows of a sound record, which it leaves as it was
pub dia_shows : (u : Mux) → Sound u → order u Dia ≡ accepted (Interrupt.shown u.setting.kind u.irq) u
unfolding after
dia_shows u s = order_sound u Dia s

-- DIA returns 0, and the flag is off
pub record Calm (u : Mux) : Type 0 where
  pub shows : (order u Dia).reply.value ≡ 0
  pub flag : u.irq.flag ≡ false

-- START is taken by a sound unit, and does to its interrupt side what its kind does
pub start_is : (u : Mux) → Sound u → order u Start ≡ accepted 0 (switched u u.runs u.clock (Interrupt.started u.setting.kind u.irq))
unfolding after
start_is u s = order_sound u Start s

-- START of a Mighty Mux removes its oldest entry: bit 0 is cleared, and the flag is on exactly where entries remain
pub record Shorter (u v : Mux) : Type 0 where
  pub irq : v.irq ≡ Interrupt.started MightyMux u.irq
  pub clock : get REAL-TIME (order v Dia).reply.value ≡ 0
  pub flag : v.irq.flag ≡ remain v.irq

-- DIAS answers what DIA answers, and leaves what START leaves
pub dias_is : (u : Mux) → order u Dias ≡ record { reply = (order u Dia).reply; mux = (order u Start).mux }
unfolding after
dias_is u = go (ℕ_discrete (refusal (of_unit u)) 0)
  where
    go : Dec (refusal (of_unit u) ≡ 0) → order u Dias ≡ record { reply = (order u Dia).reply; mux = (order u Start).mux }
    go (yes e) = rw (order_accepted u Dias e, order_accepted u Dia e, order_accepted u Start e)
    go (no h) = rw (order_refused u Dias h, order_refused u Dia h, order_refused u Start h)

-- a tick with the clock on
pub tick_on : (u : Mux) → Sound u → u.clock ≡ true → order u Tick ≡ accepted 0 (switched u u.runs u.clock (Interrupt.ticked u.irq))
unfolding after
tick_on u s e =
    order_sound u Tick s
    ∙ ap (λ i. accepted 0 (switched u u.runs u.clock i)) (pick_true u.clock (Interrupt.ticked u.irq) u.irq e)

-- a tick with the clock off changes nothing
pub tick_off : (u : Mux) → u.clock ≡ false → (order u Tick).mux ≡ u
unfolding after
tick_off u e =
    order_either (λ v. v ≡ u) u Tick refl
    (ap (λ i. switched u u.runs u.clock i) (pick-false u.clock (Interrupt.ticked u.irq) u.irq e))
