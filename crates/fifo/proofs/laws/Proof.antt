-- First in, first out: the proof of the whole statement.
--   order_step, any_window, in_order   what one single thing removes and accepts, and then any list of them
--   count                              interrupts raised = removed + stacked + lost
--   interrupt, starting                one interrupt, and one START
--   dias_reads                         what DIAS returns is what it removes
--   lost_step, lost_mark               the lost mark after one single thing, and then after any list of them
--   places                             freed places are 0 from setup on
--   fifo                               all of it
-- Not here: the case analysis, in View.
-- Assumes nothing.
use Rattle.std.specs.Prelude.{◌≡◌, refl, Bool, true, false, not, ◌&&◌, ◌||◌, List, [], ◌∷◌, ◌++◌, ◌↔◌, ◌⊎◌, ℕ, ◌+◌, ◌<◌, length, get_or, take}
use Rattle.std.proofs.Common.{sym, ◌∙◌, ap, append-nil, inl, inr, arith, length-append, lt-ltb}
use Rattle.std.proofs.lemmas.Bool.{false≢true}
use Rattle.std.proofs.Math.Bool.{and-true, and-false, or-true}
use Rattle.ground.specs.Choose.{pick, bit}
use Rattle.ground.specs.Machine
use Rattle.ground.specs.Machine.{total, tally, gather, Every}
use Rattle.ground.specs.laws.Rows.{pick_true, both_false}
use Rattle.ground.specs.laws.Machine.{gather_eq, gather_length, run_keeps, total-add, total_same}
use Rattle.words.specs.Field.{bits, get}
use Rattle.interrupt.specs.declared.Kind.TheVariants.{MightyMux}
use Rattle.interrupt.specs.declared.Service.{Service}
use Rattle.interrupt.specs.declared.Irq.{Irq}
use Rattle.interrupt.specs.Stack.{DEPTH, entries, Tidy, entry, overflowed, pushed, remain}
use Rattle.interrupt.specs.Interrupt as Interrupt
use Rattle.interrupt.specs.laws.Stack.{fresh_tidy, entries_length, pushed_room, pushed_full, push_entries, start_entries, push_lost, start_flag, start_lost}
use Rattle.interrupt.specs.laws.Shown.{shows}
use Rattle.unit.specs.declared.reply.Turn.TheVariants.{Served}
use Rattle.unit.specs.Record.{address_at}
use Rattle.unit.specs.Reply.{World}
use Rattle.unit.proofs.laws.Replies.{setup_accepted}
use Rattle.processor.specs.declared.orders.Order.TheVariants.{Dias}
use Rattle.processor.specs.laws.Processor.{order_sound, reset_rests}
use Rattle.calls.specs.Calls.{set_up, performed}
use Rattle.calls.specs.Events.{Single, NoSetup, sets_up, does, writes, result, after, run_singles, singles}
use Rattle.calls.specs.laws.Set.{keeps_setting}
use Rattle.calls.proofs.laws.Singles.{run_singles_lem}
use Rattle.door.specs.laws.Door.{made_run}
use Rattle.waiting.specs.Counting.{unrefused, is_clear}
use Rattle.waiting.specs.Waiting.{Clears, reset, setup}
use Rattle.fifo.specs.Fifo.{irq, Mighty, stacked, room, Begun, is_start, asks_start, starts_at, removes, raises_at, entry_of, told, accepts, lost_at, empties_at, InOrder, AnyWindow, InOrderCalls, Count, Queued, Overflows, DiasReads, Found, LostMark, StartFlag, Places, Fifo}
use Rattle.fifo.specs.Fifo as Stated
use Rattle.fifo.proofs.laws.View.{Seen, cleared, started, ticked, raised, left, seen, keeps_tidy}

-- ---- the kind stays

-- what is no reset and no accepted setup is no accepted setup
no_setup : (w : World) (a : Single) → (Clears w a → ⊥) → NoSetup a
no_setup w (sets_up s) h = λ z. h (setup s z refl)
no_setup w (does a) h = tt
no_setup w (writes m) h = tt

keeps_mighty : (w : World) (a : Single) → NoSetup a → Mighty w → Mighty (after w a)
keeps_mighty w a n m = ap (λ s. s.kind) (keeps_setting w a n) ∙ m

-- ---- in order

-- the side after an interrupt of a Mighty Mux
pushes : (w : World) (k : Service) (p : ℕ) (i : Irq) → Mighty w → Interrupt.raised w.mux.setting.kind k p i ≡ pushed (entry k p) i
unfolding Interrupt.raised
pushes w k p i m = rw m

pops : (w : World) (i : Irq) → Mighty w → Interrupt.started w.mux.setting.kind i ≡ Interrupt.started MightyMux i
pops w i m = rw m

-- the entry of an answer that served
told_is : (w : World) (a : Single) (k : Service) → (result w a).reply.answer.turn ≡ Served k → told w a ≡ entry k (address_at w.mux.setting (result w a).reply.answer.port) ∷ []
unfolding entry_of
told_is w a k e = ap (λ t. entry_of w.mux.setting (result w a).reply.answer.port t) e

-- what a single thing removes and accepts, by its tests
removes_none : (w : World) (a : Single) → starts_at w a ≡ false → removes w a ≡ []
unfolding removes pick
removes_none w a e = rw e

accepts_none : (w : World) (a : Single) → raises_at w a ≡ false → accepts w a ≡ []
unfolding accepts pick
accepts_none w a e = ap (λ (b : Bool). pick (b && room w) (told w a) []) e

-- what leaves the entries removes and accepts nothing
still : (w : World) (a : Single) → starts_at w a ≡ false → raises_at w a ≡ false → stacked (after w a) ≡ stacked w → removes w a ++ stacked (after w a) ≡ stacked w ++ accepts w a
still w a s r e = rw (removes_none w a s, accepts_none w a r, e) (sym (append-nil (stacked w)))

-- one single thing: what it removes, followed by what is stacked after it, is what was stacked before it, followed by what it accepts
order_step : (w : World) (a : Single) → (Clears w a → ⊥) → Mighty w × Tidy (irq w) → removes w a ++ stacked (after w a) ≡ stacked w ++ accepts w a
unfolding removes accepts pick Interrupt.ticked
order_step w a n c = go (seen w a)
  where
    go : Seen w a → removes w a ++ stacked (after w a) ≡ stacked w ++ accepts w a
    go (cleared q x e) = absurd (n x)
    go (started q e) =
        rw (q.starts, accepts_none w a q.raises, e, pops w (irq w) c.0) (start_entries (irq w) c.1 ∙ sym (append-nil (stacked w)))
    go (ticked q e) = still w a q.starts q.raises (ap entries e)
    go (left q e) = still w a q.starts q.raises (ap entries e)
    go (raised q k t e) =
        let x = entry k (address_at w.mux.setting (result w a).reply.answer.port) in
        rw (removes_none w a q.starts)
        (ap entries (e ∙ pushes w k _ (irq w) c.0)
        ∙ push_entries x (irq w) c.1
        ∙ ap (λ (l : List ℕ). stacked w ++ l) (sym (ap (λ (b : Bool). pick (b && room w) (told w a) []) q.raises ∙ ap (λ (l : List ℕ). pick (room w) l []) (told_is w a k t))))

-- a Mighty Mux with its free places 0 stays one
keeps : (w : World) (a : Single) → (Clears w a → ⊥) → Mighty w × Tidy (irq w) → Mighty (after w a) × Tidy (irq (after w a))
keeps w a n c = (keeps_mighty w a (no_setup w a n) c.0, keeps_tidy w a c.1)

any_window : AnyWindow
any_window w xs m t n = gather_eq after (λ v. Mighty v × Tidy (irq v)) (λ v a. Clears v a → ⊥) keeps removes accepts stacked order_step w xs n (m, t)

-- a unit that has just been set up or reset has a new unit's interrupt side
begun_fresh : (w : World) → Begun w → irq w ≡ Interrupt.fresh
unfolding result performed set_up pick
begun_fresh w b = ap irq b.now ∙ go b.clears
  where
    go : Clears b.before b.by → irq (after b.before b.by) ≡ Interrupt.fresh
    go (reset s e) = rw e (reset_rests b.before.mux s).irq
    go (setup s z e) = rw (e, setup_accepted s z)

begun_tidy : (w : World) → Begun w → Tidy (irq w)
begun_tidy w b = rw (begun_fresh w b) fresh_tidy

in_order : InOrder
in_order w xs b n = any_window w xs b.mighty (begun_tidy w b) n ∙ ap (λ (l : List ℕ). l ++ gather after accepts w xs) (ap entries (begun_fresh w b))

-- ---- counts

-- an interrupt that is raised is accepted or lost, and so is nothing else
shared : (r b : Bool) (l : List ℕ) → (r ≡ true → length l ≡ 1) → bit r ≡ length (pick (r && b) l []) + bit (r && not b)
unfolding pick bit
shared true true l h = omega (arith, h refl)
shared true false l h = refl
shared false b l h = refl

each_raised : (w : World) (a : Single) → bit (raises_at w a) ≡ length (accepts w a) + bit (lost_at w a)
unfolding accepts lost_at
each_raised w a = shared (raises_at w a) (room w) (told w a) (go (seen w a))
  where
    none : raises_at w a ≡ false → raises_at w a ≡ true → length (told w a) ≡ 1
    none e f = absurd (false≢true (sym e ∙ f))

    go : Seen w a → raises_at w a ≡ true → length (told w a) ≡ 1
    go (cleared q c e) = none q.raises
    go (started q e) = none q.raises
    go (ticked q e) = none q.raises
    go (left q e) = none q.raises
    go (raised q k t e) = λ r. ap length (told_is w a k t)

count : Count
count w xs b n =
    let t = run_keeps after (λ v. Tidy (irq v)) keeps_tidy w xs (begun_tidy w b) in
    omega (
      arith,
      total_same after (λ v a. bit (raises_at v a)) (λ v a. length (accepts v a) + bit (lost_at v a)) each_raised w xs,
      total-add after (λ v a. length (accepts v a)) (λ v a. bit (lost_at v a)) w xs,
      gather_length after accepts w xs,
      ap length (in_order w xs b n),
      length-append (gather after removes w xs) (stacked (run_singles w xs)),
      entries_length (irq (run_singles w xs)) t,
    )

-- ---- one interrupt, one START

interrupt : Stated.Interrupt
interrupt w a m t r = go (seen w a)
  where
    none : raises_at w a ≡ false → ((irq w).fill < DEPTH → Queued w (after w a) (told w a)) × ((irq w).fill ≡ DEPTH → Overflows w (after w a))
    none e = absurd (false≢true (sym e ∙ r))

    go : Seen w a → ((irq w).fill < DEPTH → Queued w (after w a) (told w a)) × ((irq w).fill ≡ DEPTH → Overflows w (after w a))
    go (cleared q c e) = none q.raises
    go (started q e) = none q.raises
    go (ticked q e) = none q.raises
    go (left q e) = none q.raises
    go (raised q k s e) =
        let x = entry k (address_at w.mux.setting (result w a).reply.answer.port) in
        let f : irq (after w a) ≡ pushed x (irq w) = e ∙ pushes w k _ (irq w) m in (
          λ h. record {
            entries = ap entries f ∙ push_entries x (irq w) t ∙ ap (λ (l : List ℕ). stacked w ++ l) (pick_true _ _ _ (lt-ltb _ _ h) ∙ sym (told_is w a k s));
            fill = ap (λ i. i.fill) (f ∙ pushed_room x (irq w) h);
            lost = ap (λ i. i.lost) (f ∙ pushed_room x (irq w) h);
            flag = ap (λ i. i.flag) (f ∙ pushed_room x (irq w) h);
          },
          λ h. let g : irq (after w a) ≡ overflowed (irq w) = f ∙ pushed_full x (irq w) (omega (arith, h)) in
              record { stack = ap (λ i. i.stack) g; fill = ap (λ i. i.fill) g; lost = ap (λ i. i.lost) g; flag = ap (λ i. i.flag) g },
        )

starting : StartFlag
starting w a m s = go (seen w a)
  where
    none : starts_at w a ≡ false → (irq (after w a)).flag ≡ remain (irq (after w a))
    none e = absurd (false≢true (sym e ∙ s))

    go : Seen w a → (irq (after w a)).flag ≡ remain (irq (after w a))
    go (cleared q c e) = none q.starts
    go (started q e) = rw (e, pops w (irq w) m) (start_flag (irq w))
    go (ticked q e) = none q.starts
    go (left q e) = none q.starts
    go (raised q k t e) = none q.starts

-- ---- what is read

-- the first of a list is the first of its first
same_first : (l : List ℕ) → get_or (take 1 l) 0 0 ≡ get_or l 0 0
same_first [] = refl
same_first (x ∷ xs) = refl

dias_reads : DiasReads
unfolding result performed removes starts_at asks_start is_start unrefused pick Interrupt.shown
dias_reads w m s =
    let e = order_sound w.mux Dias s in
    rw (e, m) ((shows (irq w)).oldest ∙ ap (get (bits 2 15)) (sym (same_first (stacked w))))

-- ---- the lost mark

-- the mark after a single thing, by what it was and by the tests: it was on or an interrupt found 40, and nothing emptied the stack
abbrev mark : Bool → Bool → Bool → Bool → Bool → Bool → Bool
mark lost full raise start clear remain = (lost || (raise && full)) && not (clear || (start && not remain))

-- it stays as it was
same : (x : Bool) → x ≡ ((x || false) && true)
same true = refl
same false = refl

-- it stays only where entries remain
there : (x y : Bool) → (x && y) ≡ ((x || false) && not (not y))
there true true = refl
there true false = refl
there false y = refl

-- it is cleared
none : (x : Bool) → false ≡ ((x || false) && false)
none true = refl
none false = refl

lost_step : (w : World) (a : Single) → Mighty w → (irq (after w a)).lost ≡ (((irq w).lost || lost_at w a) && not (empties_at w a))
unfolding lost_at empties_at Interrupt.ticked
lost_step w a m = go (seen w a)
  where
    now : Bool → Bool → Bool → Bool
    now r s c = mark (irq w).lost (not (room w)) r s c (remain (irq (after w a)))

    by : (r s c : Bool) → raises_at w a ≡ r → starts_at w a ≡ s → is_clear a && unrefused w a ≡ c → (irq (after w a)).lost ≡ now r s c → (irq (after w a)).lost ≡ now (raises_at w a) (starts_at w a) (is_clear a && unrefused w a)
    by r s c er es ec e =
        e ∙ sym (ap (λ x. now x (starts_at w a) (is_clear a && unrefused w a)) er ∙ ap (λ x. now r x (is_clear a && unrefused w a)) es ∙ ap (λ x. now r s x) ec)

    go : Seen w a → (irq (after w a)).lost ≡ now (raises_at w a) (starts_at w a) (is_clear a && unrefused w a)
    go (cleared q c e) = by false false true q.raises q.starts q.clears (ap (λ i. i.lost) e ∙ none (irq w).lost)
    go (started q e) =
        let f : irq (after w a) ≡ Interrupt.started MightyMux (irq w) = e ∙ pops w (irq w) m in
        by false true false q.raises q.starts q.clears
        (rw f (start_lost (irq w) ∙ there (irq w).lost (remain (Interrupt.started MightyMux (irq w)))))
    go (ticked q e) = by false false false q.raises q.starts q.clears (ap (λ i. i.lost) e ∙ same (irq w).lost)
    go (left q e) = by false false false q.raises q.starts q.clears (ap (λ i. i.lost) e ∙ same (irq w).lost)
    go (raised q k t e) =
        by true false false q.raises q.starts q.clears
        (ap (λ i. i.lost) (e ∙ pushes w k _ (irq w) m) ∙ push_lost _ (irq w) ∙ sym (and-true _))

-- what finds 40 entries empties nothing
lost_full : (w : World) (a : Single) → lost_at w a ≡ true → empties_at w a ≡ false
unfolding lost_at empties_at
lost_full w a l = go (seen w a)
  where
    silent : raises_at w a ≡ false → (is_clear a && unrefused w a) || (starts_at w a && not (remain (irq (after w a)))) ≡ false
    silent e = absurd (false≢true (ap (λ (x : Bool). x && not (room w)) (sym e) ∙ l))

    go : Seen w a → (is_clear a && unrefused w a) || (starts_at w a && not (remain (irq (after w a)))) ≡ false
    go (cleared q c e) = silent q.raises
    go (started q e) = silent q.raises
    go (ticked q e) = silent q.raises
    go (left q e) = silent q.raises
    go (raised q k t e) = both_false _ _ q.clears (ap (λ (x : Bool). x && not (remain (irq (after w a)))) q.starts)

-- over a list, whatever the mark was: it was on and nothing has emptied the stack, or an interrupt of the list found 40 and nothing has since
abbrev Marked : World → List Single → Type 0
Marked w xs = (((irq w).lost ≡ true) × (tally after empties_at w xs ≡ 0)) ⊎ Found w xs

-- what the mark after the first single thing says
first : (l f e : Bool) → ((l || f) && not e) ≡ true → (e ≡ false) × ((l ≡ true) ⊎ (f ≡ true))
first l f true h = absurd (false≢true (sym (and-false (l || f)) ∙ h))
first true f false h = (refl, inl refl)
first false true false h = (refl, inr refl)
first false false false h = absurd (false≢true h)

-- one single thing more at the front of the list
front : (w : World) (a : Single) (xs : List Single) → Mighty w → Marked w (a ∷ xs) ↔ Marked (after w a) xs
unfolding total bit
front w a xs m = (back, to)
  where
    to : Marked (after w a) xs → Marked w (a ∷ xs)
    to (inr f) = inr (inr f)
    to (inl h) = by (first _ _ _ (sym (lost_step w a m) ∙ h.0)) h.1
      where
        by : (empties_at w a ≡ false) × (((irq w).lost ≡ true) ⊎ (lost_at w a ≡ true)) → tally after empties_at (after w a) xs ≡ 0 → Marked w (a ∷ xs)
        by (e, inl l) t = inl (l, omega (arith, ap bit e, t))
        by (e, inr l) t = inr (inl (l, t))

    -- a mark that is set and not cleared
    on : ((irq w).lost || lost_at w a) ≡ true → empties_at w a ≡ false → (irq (after w a)).lost ≡ true
    on l e = lost_step w a m ∙ ap (λ (x : Bool). x && not (empties_at w a)) l ∙ ap not e

    quiet : (x : Bool) (n : ℕ) → bit x + n ≡ 0 → (x ≡ false) × (n ≡ 0)
    quiet true n h = absurd (omega (arith, h))
    quiet false n h = (refl, omega (arith, h))

    back : Marked w (a ∷ xs) → Marked (after w a) xs
    back (inl h) =
        let q = quiet (empties_at w a) (tally after empties_at (after w a) xs) h.1 in
        inl (on (ap (λ (x : Bool). x || lost_at w a) h.0) q.0, q.1)
    back (inr (inl h)) = inl (on (ap (λ (x : Bool). (irq w).lost || x) h.0 ∙ or-true (irq w).lost) (lost_full w a h.0), h.1)
    back (inr (inr f)) = inr f

marked : (w : World) (xs : List Single) → Mighty w → Every after (λ v a. NoSetup a) w xs → ((irq (run_singles w xs)).lost ≡ true) ↔ Marked w xs
unfolding Machine.run total
marked w [] m n = (λ e. inl (e, refl), back)
  where
    back : Marked w [] → (irq w).lost ≡ true
    back (inl h) = h.0
    back (inr f) = absurd f
marked w (a ∷ xs) m n =
    let rest = marked (after w a) xs (keeps_mighty w a n.0 m) n.1 in
    let f = front w a xs m in
    (λ e. f.1 (rest.0 e), λ h. rest.1 (f.0 h))

lost_mark : LostMark
lost_mark w xs m l n = let k = marked w xs m n in (λ e. go (k.0 e), λ f. k.1 (inr f))
  where
    go : Marked w xs → Found w xs
    go (inl h) = absurd (false≢true (sym l ∙ h.0))
    go (inr f) = f

-- ---- from setup on

places : Places
unfolding result set_up pick
places w s = rw s.now (run_keeps after (λ v. Tidy (irq v)) keeps_tidy (after s.before (sets_up s.setting)) s.since (rw (setup_accepted s.setting s.accepted) fresh_tidy))

-- calls through the door come to their single things
calls : InOrderCalls
calls w v es b n m = ap (λ u. gather after removes w (singles w es) ++ stacked u) (made_run m ∙ run_singles_lem w es) ∙ in_order w (singles w es) b n

-- ---- all of it

pub fifo : Fifo
fifo =
    record {
      in_order = in_order;
      any_window = any_window;
      calls = calls;
      count = count;
      interrupt = interrupt;
      dias_reads = dias_reads;
      lost_mark = lost_mark;
      start_flag = starting;
      places = places;
      keeps_places = keeps_tidy;
    }
