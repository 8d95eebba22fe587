-- What one single thing does to the interrupt side, of any world, sound or not, of either kind: the one case analysis.
--   Asked, Seen, seen   how the tests come out; a reset or setup; START; a tick; an interrupt; or something that leaves the interrupt side
--   keeps_tidy          whatever it is, freed places are 0 after it where they were before
--   Plain, keeps_plain  an EDS-8 that has nothing but a flag and a status word goes on so: with interrupt, laws/Before, it is the unit that it was
--   plain_since         from its setup on, whatever comes until another setup is taken, it has nothing else
-- Not here: what each of these does to the entries, in interrupt, laws/Stack.
-- Assumes nothing.
use Rattle.std.specs.Prelude.{◌≡◌, Bool, ◌&&◌, List, [], ◌∷◌, ℕ}
use Rattle.std.proofs.Math.Path.{refl, ap}
use Rattle.std.proofs.Common.{◌∙◌, ne_eqb}
use Rattle.std.proofs.Math.Bool.{true, false, and-true, and-false}
use Rattle.std.proofs.Math.Decide.{ℕ_discrete}
use Rattle.ground.specs.Choose.{pick}
use Rattle.ground.specs.Machine
use Rattle.ground.specs.Machine.{Every}
use Rattle.interrupt.specs.declared.Kind.TheVariants.{Eds8}
use Rattle.interrupt.specs.declared.Service.{Service}
use Rattle.interrupt.specs.declared.Irq.{Irq}
use Rattle.interrupt.specs.Interrupt as Interrupt
use Rattle.interrupt.specs.Stack.{Tidy}
use Rattle.interrupt.specs.laws.Before.{Was, was, plain, plain_before}
use Rattle.interrupt.specs.laws.Stack.{fresh_tidy, started_tidy, ticked_tidy}
use Rattle.interrupt.proofs.laws.Stack.{raised_tidy}
use Rattle.unit.specs.declared.mux.Setting.{Setting}
use Rattle.unit.specs.declared.mux.Mux.{Mux}
use Rattle.unit.specs.declared.reply.Turn.TheVariants.{Served}
use Rattle.unit.specs.Record.{fresh, address_at}
use Rattle.unit.specs.Reply.{refused, accepted, World, looked}
use Rattle.unit.specs.Refusals.{refusal, of_setup, of_unit, of_port}
use Rattle.unit.proofs.laws.Replies.{setup_accepted}
use Rattle.unit.proofs.laws.Sound.{sound_iff}
use Rattle.lines.specs.declared.signal.Signal.{Signal}
use Rattle.lines.specs.laws.Lines.{line_refused, line_accepted}
use Rattle.processor.specs.declared.orders.Order.{Order}
use Rattle.processor.specs.declared.orders.Order.TheVariants.{Reset, Iopls, Start, Doc, Dob, Dia, Dias, Tick}
use Rattle.processor.specs.Processor as Processor
use Rattle.processor.specs.laws.Processor.{order_refused, order_accepted}
use Rattle.scan.specs.laws.Interrupt.{Interrupts, raises, silent}
use Rattle.scan.proofs.laws.Interrupt.{inspection_irq}
use Rattle.calls.specs.declared.call.Act.TheVariants.{Line, Processor, Inspect}
use Rattle.calls.specs.Calls.{setting_up, set_up, performed, step_of, given_of}
use Rattle.calls.proofs.laws.Refusals.{step_refuses}
use Rattle.calls.specs.Events.{Single, NoSetup, sets_up, does, writes, result, after, run_singles}
use Rattle.calls.specs.laws.Set.{keeps_setting}
use Rattle.waiting.specs.Counting.{unrefused, is_clear}
use Rattle.waiting.specs.Waiting.{Clears, reset, setup}
use Rattle.fifo.specs.Fifo.{irq, is_start, asks_start, starts_at, raises_at}

module _ (w : World) (a : Single) where
  -- how the tests come out: an interrupt raised, a START, a reset or setup
  pub record Asked (raised start clear : Bool) : Type 0 where
    pub raises : raises_at w a ≡ raised
    pub starts : starts_at w a ≡ start
    pub clears : is_clear a && unrefused w a ≡ clear

  -- what a single thing does
  pub data Seen : Type 0 where
    cleared : Asked false false true → Clears w a → irq (after w a) ≡ Interrupt.fresh → Seen
    started : Asked false true false → irq (after w a) ≡ Interrupt.started w.mux.setting.kind (irq w) → Seen
    ticked : Asked false false false → irq (after w a) ≡ Interrupt.ticked (irq w) → Seen
    raised : Asked true false false → (k : Service) → (result w a).reply.answer.turn ≡ Served k → irq (after w a) ≡ Interrupt.raised w.mux.setting.kind k (address_at w.mux.setting (result w a).reply.answer.port) (irq w) → Seen
    left : Asked false false false → irq (after w a) ≡ irq w → Seen

-- ---- refused or not

-- a refused single thing
refused_seen : (w : World) (a : Single) (k : ℕ) → (k ≡ 0 → ⊥) → result w a ≡ looked (refused k w.mux) w.memory → Seen w a
unfolding unrefused starts_at
refused_seen w a k h e = left (record { raises = ap (λ l. l.reply.answer.raised) e; starts = none (asks_start a); clears = none (is_clear a) }) (ap (λ l. l.world.mux.irq) e)
  where
    none : (b : Bool) → b && unrefused w a ≡ false
    none b = rw (e, ne_eqb k 0 h) (and-false b)

-- an accepted one that is no inspection: each test is what is asked
accepts : (w : World) (a : Single) (v : ℕ) (u : Mux) → result w a ≡ looked (accepted v u) w.memory → Asked w a false (asks_start a) (is_clear a)
unfolding unrefused starts_at
accepts w a v u e = record { raises = ap (λ l. l.reply.answer.raised) e; starts = yes (asks_start a); clears = yes (is_clear a) }
  where
    yes : (b : Bool) → b && unrefused w a ≡ b
    yes b = rw e (and-true b)

-- ---- each kind of single thing

setup_seen : (w : World) (s : Setting) → Seen w (sets_up s)
unfolding result set_up pick asks_start is_clear step_of given_of
setup_seen w s = go (ℕ_discrete (refusal (of_setup s)) 0)
  where
    go : Dec (refusal (of_setup s) ≡ 0) → Seen w (sets_up s)
    go (no h) = refused_seen w (sets_up s) _ h (ap (λ o. record { reply = o.reply; world = o.world }) ((step_refuses w [] (setting_up s)).keeps h))
    go (yes z) = cleared (accepts w (sets_up s) 0 (fresh s) (rw (setup_accepted s z))) (setup s z refl) (rw (setup_accepted s z))

line_seen : (w : World) (q : ℕ) (e : Signal) → Seen w (does (Line q e))
unfolding result performed asks_start is_clear
line_seen w q e = go (ℕ_discrete (refusal (of_port w.mux q)) 0)
  where
    go : Dec (refusal (of_port w.mux q) ≡ 0) → Seen w (does (Line q e))
    go (no h) = refused_seen w (does (Line q e)) _ h (ap (λ r. looked r w.memory) (line_refused w.mux q e h))
    go (yes z) =
        left (accepts w (does (Line q e)) 0 _ (ap (λ r. looked r w.memory) (line_accepted w.mux q e z))) (rw (line_accepted w.mux q e z))

module _ (w : World) where
  -- an order that is not refused: the tests, and the interrupt side after it
  asks : (o : Order) → refusal (of_unit w.mux) ≡ 0 → Asked w (does (Processor o)) false (is_start o) (Processor.is_reset o)
  unfolding result performed asks_start is_clear
  asks o z = accepts w (does (Processor o)) _ _ (ap (λ r. looked r w.memory) (order_accepted w.mux o z))

  gives : (o : Order) → refusal (of_unit w.mux) ≡ 0 → irq (after w (does (Processor o))) ≡ (Processor.after o w.mux).irq
  unfolding result performed
  gives o z = ap (λ r. r.mux.irq) (order_accepted w.mux o z)

  own_order : (o : Order) → refusal (of_unit w.mux) ≡ 0 → Seen w (does (Processor o))
  unfolding Processor.after Interrupt.cleared is_start pick
  own_order Reset z = cleared (asks Reset z) (reset ((sound_iff w.mux).0 z) refl) (gives Reset z)
  own_order Start z = started (asks Start z) (gives Start z)
  own_order Dias z = started (asks Dias z) (gives Dias z)
  own_order Iopls z = left (asks Iopls z) (gives Iopls z)
  own_order Doc z = left (asks Doc z) (gives Doc z)
  own_order Dob z = left (asks Dob z) (gives Dob z)
  own_order Dia z = left (asks Dia z) (gives Dia z)
  own_order Tick z = by w.mux.clock refl
    where
      by : (c : Bool) → w.mux.clock ≡ c → Seen w (does (Processor Tick))
      by true e = ticked (asks Tick z) (gives Tick z ∙ rw e)
      by false e = left (asks Tick z) (gives Tick z ∙ rw e)

  order_seen : (o : Order) → Seen w (does (Processor o))
  unfolding result performed
  order_seen o = go (ℕ_discrete (refusal (of_unit w.mux)) 0)
    where
      go : Dec (refusal (of_unit w.mux) ≡ 0) → Seen w (does (Processor o))
      go (yes z) = own_order o z
      go (no h) = refused_seen w (does (Processor o)) _ h (ap (λ r. looked r w.memory) (order_refused w.mux o h))

inspect_seen : (w : World) → Seen w (does Inspect)
unfolding result performed starts_at asks_start is_clear
inspect_seen w = go (inspection_irq w.mux w.memory)
  where
    go : Interrupts w.mux (performed w Inspect) → Seen w (does Inspect)
    go (raises k t p r e) = raised (record { raises = r; starts = refl; clears = refl }) k t (e ∙ rw p)
    go (silent r e) = left (record { raises = r; starts = refl; clears = refl }) e

-- every single thing
pub seen : (w : World) (a : Single) → Seen w a
unfolding result starts_at asks_start is_clear
seen w (sets_up s) = setup_seen w s
seen w (does (Line q e)) = line_seen w q e
seen w (does (Processor o)) = order_seen w o
seen w (does Inspect) = inspect_seen w
seen w (writes m) = left (record { raises = refl; starts = refl; clears = refl }) refl

-- freed places are 0 after it where they were before
pub keeps_tidy : (w : World) (a : Single) → Tidy (irq w) → Tidy (irq (after w a))
keeps_tidy w a t = go (seen w a)
  where
    go : Seen w a → Tidy (irq (after w a))
    go (cleared q c e) = rw e fresh_tidy
    go (started q e) = rw e (started_tidy w.mux.setting.kind (irq w) t)
    go (ticked q e) = rw e (ticked_tidy (irq w) t)
    go (raised q k s e) = rw e (raised_tidy w.mux.setting.kind k _ (irq w) t)
    go (left q e) = rw e t

-- nothing but a flag and a status word
abbrev pub Plain : Irq → Type 0
Plain i = i ≡ plain (was i)

-- an EDS-8 goes on so, whatever comes; a new setup makes it so
pub keeps_plain : (w : World) (a : Single) → w.mux.setting.kind ≡ Eds8 → Plain (irq w) → Plain (irq (after w a))
keeps_plain w a k p = go (seen w a)
  where
    -- what makes a plain side plain leaves this one so
    by : (i : Irq) (x : Irq → Irq) (y : Was) → i ≡ x (irq w) → x (plain (was (irq w))) ≡ plain y → Plain i
    by i x y e f = let g : i ≡ plain y = e ∙ ap x p ∙ f in rw g refl

    go : Seen w a → Plain (irq (after w a))
    go (cleared q c e) = rw e refl
    go (started q e) = by _ (Interrupt.started Eds8) _ (e ∙ rw k) (plain_before (was (irq w))).start
    go (ticked q e) = by _ Interrupt.ticked _ e (plain_before (was (irq w))).tick
    go (raised q s t e) =
        let address = address_at w.mux.setting (result w a).reply.answer.port in
        by _ (Interrupt.raised Eds8 s address) _ (e ∙ rw k) ((plain_before (was (irq w))).raise s address)
    go (left q e) = rw e p

-- so it does over a list without a setup that is taken
plain-run : (w : World) (xs : List Single) → w.mux.setting.kind ≡ Eds8 → Plain (irq w) → Every after (λ v a. NoSetup a) w xs → Plain (irq (run_singles w xs))
unfolding Machine.run
plain-run w [] k p n = p
plain-run w (a ∷ xs) k p n = plain-run (after w a) xs (ap (λ s. s.kind) (keeps_setting w a n.0) ∙ k) (keeps_plain w a k p) n.1

-- from the setup of an EDS-8 on
pub plain_since : (w : World) (s : Setting) (xs : List Single) → refusal (of_setup s) ≡ 0 → s.kind ≡ Eds8 → let v = after w (sets_up s) in Every after (λ u a. NoSetup a) v xs → Plain (irq (run_singles v xs))
unfolding result set_up pick
plain_since w s xs z k n = plain-run (after w (sets_up s)) xs (rw (setup_accepted s z) k) (rw (setup_accepted s z) refl) n
