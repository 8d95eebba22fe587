-- The stack of a Mighty Mux over any run. The statement; its proof is `fifo` in laws/Proof.
-- "State over any run since setup or reset that the entries removed by START, followed by those still stacked, are those accepted, in order" (document 02, K6).
-- Where each phrase stands:
--   any run since setup or reset       Begun, NoneSince
--   the entries removed by START       removes: the oldest entry before each START or DIAS that is not refused, if there is one
--   those still stacked                stacked
--   those accepted                     accepts: by what each inspection answers, and the number of entries that it met
--   in order                           InOrder; AnyWindow, from any moment on
--   not queued, and sets a lost mark   lost_at, Queued, Overflows; LostMark
--   what the host reads of it          DiasReads
-- A single thing is a call that is no sweep, or a host write (calls, Events); refused ones are among them. A sweep comes to the inspections that it
-- makes (`events`, `door`), so an interrupt inside one counts as any other.
-- Not here: what an interrupt and START do to the stack, in interrupt, Stack; which inspection raises one, in input and output.
-- Assumes nothing.
use Rattle.std.specs.Prelude.{◌≡◌, Bool, true, false, not, ◌&&◌, ◌||◌, List, [], ◌∷◌, ◌++◌, ◌↔◌, ◌⊎◌, ℕ, ◌+◌, ◌<◌, ltb, length, get_or, take}
use Rattle.ground.specs.Choose.{pick}
use Rattle.ground.specs.Machine.{tally, gather, Every}
use Rattle.words.specs.Field.{bits, get}
use Rattle.interrupt.specs.declared.Kind.TheVariants.{MightyMux}
use Rattle.interrupt.specs.declared.Irq.{Irq}
use Rattle.interrupt.specs.Stack.{DEPTH, entries, Tidy, entry, remain}
use Rattle.unit.specs.declared.mux.Setting.{Setting}
use Rattle.unit.specs.declared.reply.Turn.{Turn}
use Rattle.unit.specs.declared.reply.Turn.TheVariants.{Nothing, Idle, Served}
use Rattle.unit.specs.Record.{address_at}
use Rattle.unit.specs.Reply.{World}
use Rattle.unit.specs.Sound.{Sound}
use Rattle.processor.specs.declared.orders.Order.{Order}
use Rattle.processor.specs.declared.orders.Order.TheVariants.{Reset, Iopls, Start, Doc, Dob, Dia, Dias, Tick}
use Rattle.calls.specs.declared.call.Act.TheVariants.{Line, Processor, Inspect}
use Rattle.calls.specs.Events.{Event, Single, NoSetup, sets_up, does, writes, result, after, run_singles, singles}
use Rattle.door.specs.Door.{Made}
use Rattle.waiting.specs.Counting.{unrefused, is_clear}
use Rattle.waiting.specs.Waiting.{Since, Clears}

-- ---- the unit

-- its interrupt side
abbrev pub irq : World → Irq
irq w = w.mux.irq

-- it is a Mighty Mux
abbrev pub Mighty : World → Type 0
Mighty w = w.mux.setting.kind ≡ MightyMux

-- the entries that are stacked, oldest first
abbrev pub stacked : World → List ℕ
stacked w = entries (irq w)

-- there is room for one more: fewer than 40
abbrev pub room : World → Bool
room w = ltb (irq w).fill DEPTH

-- a Mighty Mux that has just been set up or reset, by a call that was not refused
pub record Begun (w : World) : Type 0 where
  pub mighty : Mighty w
  pub before : World
  pub by : Single
  pub clears : Clears before by
  pub now : w ≡ after before by

-- no reset and no setup that is not refused
abbrev pub NoneSince : World → List Single → Type 0
NoneSince w xs = Every after (λ v a. Clears v a → ⊥) w xs

-- ---- a single thing, where it is made

-- START, and DIAS, of the orders
unfoldable pub is_start : Order → Bool
is_start Reset = false
is_start Iopls = false
is_start Start = true
is_start Doc = false
is_start Dob = false
is_start Dia = false
is_start Dias = true
is_start Tick = false

-- START or DIAS, refused or not
unfoldable pub asks_start : Single → Bool
asks_start (sets_up s) = false
asks_start (does (Line q e)) = false
asks_start (does (Processor o)) = is_start o
asks_start (does Inspect) = false
asks_start (writes m) = false

-- a START or DIAS that is not refused
unfoldable pub starts_at : World → Single → Bool
starts_at w a = asks_start a && unrefused w a

-- what it removes: the oldest entry before it, if there is one
unfoldable pub removes : World → Single → List ℕ
removes w a = pick (starts_at w a) (take 1 (stacked w)) []

-- an interrupt is raised, by what is answered
abbrev pub raises_at : World → Single → Bool
raises_at w a = (result w a).reply.answer.raised

-- the entry of a turn of port p
unfoldable pub entry_of : Setting → ℕ → Turn → List ℕ
entry_of s p Nothing = []
entry_of s p Idle = []
entry_of s p (Served k) = entry k (address_at s p) ∷ []

-- the entry of an answer: what was served, and the address of the port that it names
abbrev pub told : World → Single → List ℕ
told w a = entry_of w.mux.setting (result w a).reply.answer.port (result w a).reply.answer.turn

-- what is accepted: the entry of an interrupt that is raised where there is room
unfoldable pub accepts : World → Single → List ℕ
accepts w a = pick (raises_at w a && room w) (told w a) []

-- an interrupt that finds 40 entries
unfoldable pub lost_at : World → Single → Bool
lost_at w a = raises_at w a && not (room w)

-- a reset, a setup, or a START that leaves the stack empty, not refused
unfoldable pub empties_at : World → Single → Bool
empties_at w a = (is_clear a && unrefused w a) || (starts_at w a && not (remain (irq (after w a))))

-- ---- in order

-- over a run since setup or reset: what was removed, followed by what is stacked, is what was accepted
abbrev pub InOrder : Type 0
InOrder =
    (w : World) (xs : List Single) → Begun w → NoneSince w xs →
    gather after removes w xs ++ stacked (run_singles w xs) ≡ gather after accepts w xs

-- from any moment on, with what is stacked there before what is accepted
abbrev pub AnyWindow : Type 0
AnyWindow =
    (w : World) (xs : List Single) → Mighty w → Tidy (irq w) → NoneSince w xs →
    gather after removes w xs ++ stacked (run_singles w xs) ≡ stacked w ++ gather after accepts w xs

-- the same of calls that an emulator makes, sweeps among them
abbrev pub InOrderCalls : Type 0
InOrderCalls =
    (w v : World) (es : List Event) → Begun w → NoneSince w (singles w es) → Made w es v →
    gather after removes w (singles w es) ++ stacked v ≡ gather after accepts w (singles w es)

-- ---- counts

-- interrupts raised = removed + stacked + lost
abbrev pub Count : Type 0
Count =
    (w : World) (xs : List Single) → Begun w → NoneSince w xs →
    tally after raises_at w xs ≡ length (gather after removes w xs) + (irq (run_singles w xs)).fill + tally after lost_at w xs

-- ---- one interrupt

-- one that finds room is stacked behind the others, and none is lost
pub record Queued (w v : World) (e : List ℕ) : Type 0 where
  pub entries : stacked v ≡ stacked w ++ e
  pub fill : (irq v).fill ≡ (irq w).fill + 1
  pub lost : (irq v).lost ≡ (irq w).lost
  pub flag : (irq v).flag ≡ true

-- one that finds none is not queued, and sets the lost mark
pub record Overflows (w v : World) : Type 0 where
  pub stack : (irq v).stack ≡ (irq w).stack
  pub fill : (irq v).fill ≡ (irq w).fill
  pub lost : (irq v).lost ≡ true
  pub flag : (irq v).flag ≡ true

abbrev pub Interrupt : Type 0
Interrupt =
    (w : World) (a : Single) → Mighty w → Tidy (irq w) → raises_at w a ≡ true →
    ((irq w).fill < DEPTH → Queued w (after w a) (told w a)) × ((irq w).fill ≡ DEPTH → Overflows w (after w a))

-- ---- what is read

-- bits 2 to 15 of what DIAS returns are those of the entry that it removes; 0 where it removes none
abbrev pub DiasReads : Type 0
DiasReads =
    (w : World) → Mighty w → Sound w.mux →
    let dias = does (Processor Dias) in
    get (bits 2 15) (result w dias).reply.value ≡ get (bits 2 15) (get_or (removes w dias) 0 0)

-- ---- the lost mark, the flag, the places

-- an interrupt of the list found 40 entries, and nothing has emptied the stack since: it is the first of the list, or a later one
abbrev pub Found : World → List Single → Type 0
Found w [] = ⊥
Found w (a ∷ xs) = ((lost_at w a ≡ true) × (tally after empties_at (after w a) xs ≡ 0)) ⊎ Found (after w a) xs

-- the mark is on exactly where an interrupt has found 40 since the last setup, reset or START that left the stack empty; the list may hold resets
abbrev pub LostMark : Type 0
LostMark =
    (w : World) (xs : List Single) → Mighty w → (irq w).lost ≡ false → Every after (λ v a. NoSetup a) w xs →
    ((irq (run_singles w xs)).lost ≡ true) ↔ Found w xs

-- the flag after START is on exactly where entries remain
abbrev pub StartFlag : Type 0
StartFlag = (w : World) (a : Single) → Mighty w → starts_at w a ≡ true → (irq (after w a)).flag ≡ remain (irq (after w a))

-- from an accepted setup on, of either kind and whatever comes: 40 places, at most 40 entries, and every freed place 0
abbrev pub Places : Type 0
Places = (w : World) → Since w → Tidy (irq w)

-- each single thing keeps it
abbrev pub KeepsPlaces : Type 0
KeepsPlaces = (w : World) (a : Single) → Tidy (irq w) → Tidy (irq (after w a))

-- ---- what was begun

pub record Fifo : Type 0 where
  pub in_order : InOrder
  pub any_window : AnyWindow
  pub calls : InOrderCalls
  pub count : Count
  pub interrupt : Interrupt
  pub dias_reads : DiasReads
  pub lost_mark : LostMark
  pub start_flag : StartFlag
  pub places : Places
  pub keeps_places : KeepsPlaces
