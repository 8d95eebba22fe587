-- Laws of what the processor does (document 01, of that name), each said once over the order where it can be.
--   Keeps, reset_only, order_keeps   every order but reset leaves setting, position and ports as they were
--   order_unread                  a unit with another set of special codes does the same (document 02, K5)
--   order_stays_sound, _ports     every order leaves a sound record sound, and the array of ports as long as it was
--   stops, runs_on, runs_after    of a unit that runs: DOB and reset stop it, and no other order does
--   start_clears, start_removes   START of an EDS-8 clears what DIA shows, and the flag; that of a Mighty Mux removes its oldest entry
-- Here, and not in specs/laws/Processor, is what rests on other laws of specs/: an edit of a definition counts as refused where nothing in specs/ rests on the
-- law that it breaks.
-- Assumes nothing.
use Rattle.std.specs.Prelude.{◌≡◌, refl, Bool, true, false, not, List, ◌⊎◌, length}
use Rattle.std.proofs.Common.{ap, sym, ◌∙◌, true≢false, inl, inr}
use Rattle.std.proofs.lemmas.List.{length-map}
use Rattle.ground.specs.Choose.{pick}
use Rattle.words.specs.Field.{get}
use Rattle.words.specs.Codes.{REAL-TIME}
use Rattle.interrupt.specs.declared.Kind.TheVariants.{Eds8, MightyMux}
use Rattle.interrupt.specs.declared.Irq.{Irq}
use Rattle.interrupt.specs.Interrupt as Interrupt
use Rattle.interrupt.specs.laws.Interrupt as Irqs
use Rattle.interrupt.specs.laws.Stack.{start_flag}
use Rattle.interrupt.specs.laws.Shown.{start_clock}
use Rattle.unit.specs.declared.mux.Mux.{Mux}
use Rattle.unit.specs.Reply.{accepted}
use Rattle.unit.specs.Refusals.{refusal, of_unit}
use Rattle.unit.specs.Sound.{Sound}
use Rattle.unit.specs.laws.Sound.{sound_with}
use Rattle.unit.specs.laws.Set.{chosen, refusal_unread, again, guarded_unread}
use Rattle.processor.specs.declared.orders.Order.{Order}
use Rattle.processor.specs.declared.orders.Order.TheVariants.{Reset, Iopls, Start, Doc, Dob, Dia, Dias, Tick}
use Rattle.processor.specs.Processor.{reset_port, switched, reset_unit, value_of, after, order, is_reset}
use Rattle.processor.specs.laws.Processor.{order_sound, order_either, Keeps, keeps_same, keeps_sound, stops, dia_shows, Calm, start_is, Shorter}

-- ---- what the orders keep

-- a tick leaves a sound interrupt side sound, with the clock on or off
ticks : (clock : Bool) (i : Irq) → Interrupt.unsound i ≡ false → Interrupt.unsound (pick clock (Interrupt.ticked i) i) ≡ false
unfolding pick
ticks true i e = Irqs.ticked_sound i e
ticks false i e = e

-- an order is the reset, or it keeps: the case analysis, once
reset_or_keeps : (u : Mux) (o : Order) → (o ≡ Reset) ⊎ Keeps u (after o u)
unfolding after
reset_or_keeps u = each
  where
    switches : (runs clock : Bool) (irq : Irq) → (Interrupt.unsound u.irq ≡ false → Interrupt.unsound irq ≡ false) → Keeps u (switched u runs clock irq)
    switches runs clock irq i = record { setting = refl; pos = refl; port = refl; irq = i }

    each : (o : Order) → (o ≡ Reset) ⊎ Keeps u (after o u)
    each Reset = inl refl
    each Iopls = inr (switches _ _ _ (λ e. e))
    each Start = inr (switches _ _ _ (Irqs.started_sound u.setting.kind u.irq))
    each Doc = inr (switches _ _ _ (λ e. e))
    each Dob = inr (switches _ _ _ (λ e. e))
    each Dia = inr (keeps_same u)
    each Dias = inr (switches _ _ _ (Irqs.started_sound u.setting.kind u.irq))
    each Tick = inr (switches _ _ _ (ticks u.clock u.irq))

-- every order but reset keeps setting, position and ports
pub order_keeps : (u : Mux) (o : Order) → is_reset o ≡ false → Keeps u (order u o).mux
order_keeps u o e = order_either (Keeps u) u o (keeps_same u) (go (reset_or_keeps u o))
  where
    go : (o ≡ Reset) ⊎ Keeps u (after o u) → Keeps u (after o u)
    go (inl r) = absurd (true≢false (sym (ap is_reset r) ∙ e))
    go (inr k) = k

-- with another set of special codes in the record an order does the same, and the set is kept
after_unread : (codes : List Bool) (u : Mux) (o : Order) → after o (chosen codes u) ≡ chosen codes (after o u)
unfolding after
after_unread codes u Reset = refl
after_unread codes u Iopls = refl
after_unread codes u Start = refl
after_unread codes u Doc = refl
after_unread codes u Dob = refl
after_unread codes u Dia = refl
after_unread codes u Dias = refl
after_unread codes u Tick = refl

pub order_unread : (codes : List Bool) (u : Mux) (o : Order) → order (chosen codes u) o ≡ again codes (order u o)
unfolding order
order_unread codes u o =
    rw (refusal_unread codes codes (of_unit u), after_unread codes u o) (guarded_unread codes (refusal (of_unit u)) u (accepted (value_of o u.setting.kind u.irq) (after o u)))

-- every order leaves a sound record sound
pub order_stays_sound : (u : Mux) (o : Order) → Sound u → Sound (order u o).mux
unfolding after
order_stays_sound u o s = order_either Sound u o s (go (reset_or_keeps u o))
  where
    go : (o ≡ Reset) ⊎ Keeps u (after o u) → Sound (after o u)
    go (inl r) = rw r (sound_with u (reset_unit u) refl s.setting.size.some_port (Irqs.cleared_sound u.irq) s)
    go (inr k) = keeps_sound u (after o u) k s

-- every order leaves the array of ports as long as it was
pub order_ports : (u : Mux) (o : Order) → length (order u o).mux.port ≡ length u.port
unfolding after
order_ports u o = order_either (λ v. length v.port ≡ length u.port) u o refl (go (reset_or_keeps u o))
  where
    go : (o ≡ Reset) ⊎ Keeps u (after o u) → length (after o u).port ≡ length u.port
    go (inl r) = rw r (length-map u.port reset_port)
    go (inr k) = ap length k.port

-- ---- what stops a unit

after_runs : (u : Mux) (o : Order) → u.runs ≡ true → (after o u).runs ≡ not (stops o)
unfolding after
after_runs u Reset r = refl
after_runs u Iopls r = r
after_runs u Start r = r
after_runs u Doc r = refl
after_runs u Dob r = refl
after_runs u Dia r = r
after_runs u Dias r = r
after_runs u Tick r = r

-- only they stop a unit that runs
pub runs_on : (u : Mux) (o : Order) → stops o ≡ false → u.runs ≡ true → (order u o).mux.runs ≡ true
runs_on u o e r = order_either (λ v. v.runs ≡ true) u o r (after_runs u o r ∙ ap not e)

-- and they do stop it, where the record is sound
pub runs_after : (u : Mux) (o : Order) → Sound u → u.runs ≡ true → (order u o).mux.runs ≡ not (stops o)
runs_after u o s r = rw (order_sound u o s) (after_runs u o r)

-- ---- DIA, START, DIAS, the tick

-- what DIA shows after it
start_shows : (u : Mux) → Sound u → (order (order u Start).mux Dia).reply.value ≡ Interrupt.shown u.setting.kind (Interrupt.started u.setting.kind u.irq)
start_shows u s =
    ap (λ r. r.reply.value) (dia_shows (order u Start).mux (order_stays_sound u Start s))
    ∙ ap (λ r. Interrupt.shown r.mux.setting.kind r.mux.irq) (start_is u s)

-- START of an EDS-8 clears what DIA shows, and the flag
pub start_clears : (u : Mux) → Sound u → u.setting.kind ≡ Eds8 → Calm (order u Start).mux
start_clears u s e =
    record {
      shows = start_shows u s ∙ rw e (Irqs.quiet_shows u.irq);
      flag = rw (start_is u s, e) (Irqs.quiet_flag u.irq);
    }

pub start_removes : (u : Mux) → Sound u → u.setting.kind ≡ MightyMux → Shorter u (order u Start).mux
start_removes u s e =
    let f : (order u Start).mux.irq ≡ Interrupt.started MightyMux u.irq = ap (λ r. r.mux.irq) (start_is u s) ∙ rw e in
    record {
      irq = f;
      clock = ap (get REAL-TIME) (start_shows u s ∙ rw e) ∙ start_clock MightyMux u.irq;
      flag = rw f (start_flag u.irq);
    }
