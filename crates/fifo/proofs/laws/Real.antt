-- The statement is not empty: a Mighty Mux whose stack is overfilled, and what `fifo` says of it, computed.
--   none_since   a list without a reset and a setup is one that `fifo` speaks of
--   begun        the unit of the example has just been set up
--   overfilled   41 ports, each with a character to send, are served, and then two entries are removed: 40 were accepted in the order of the ports, the first two are
--                out, 38 are stacked, and one was lost
--   spoken_of    `fifo` speaks of it
-- Not here: more examples, in calls, Examples.
-- Assumes nothing.
use Rattle.std.specs.Prelude.{◌≡◌, refl, Bool, true, false, ◌&&◌, not, List, [], ◌∷◌, ◌++◌, ℕ, ◌+◌, ◌*◌, take, drop, replicate}
use Rattle.std.proofs.Common.{sym, ◌∙◌}
use Rattle.std.proofs.lemmas.Bool.{false≢true}
use Rattle.ground.specs.Tab.{tab}
use Rattle.ground.specs.Machine
use Rattle.ground.specs.Machine.{tally, gather}
use Rattle.interrupt.specs.declared.Kind.TheVariants.{MightyMux}
use Rattle.unit.specs.declared.mux.Setting.{Setting}
use Rattle.unit.specs.Record.{no_mux}
use Rattle.unit.specs.Reply.{World, world}
use Rattle.processor.specs.declared.orders.Order.TheVariants.{Doc}
use Rattle.calls.specs.declared.call.Act.TheVariants.{Processor}
use Rattle.calls.specs.Events.{Single, sets_up, does, after, run_singles}
use Rattle.calls.specs.Examples.{setting_for, look, start}
use Rattle.calls.specs.laws.Examples.{everything}
use Rattle.waiting.specs.Counting.{is_clear, unrefused}
use Rattle.waiting.specs.Waiting.{Clears, reset, setup}
use Rattle.fifo.specs.Fifo.{irq, Begun, NoneSince, is_start, asks_start, starts_at, removes, raises_at, entry_of, accepts, lost_at, stacked}
use Rattle.fifo.proofs.laws.Proof.{fifo}

-- ---- lists that are spoken of

-- neither a reset nor a setup
clears_asks : (w : World) (a : Single) → Clears w a → is_clear a ≡ true
unfolding is_clear
clears_asks w a (reset s e) = rw e
clears_asks w a (setup s z e) = rw e

-- none of the list is either
unfoldable pub calm : List Single → Bool
calm [] = true
calm (a ∷ xs) = not (is_clear a) && calm xs

pub none_since : (w : World) (xs : List Single) → calm xs ≡ true → NoneSince w xs
unfolding calm
none_since w [] e = tt
none_since w (a ∷ xs) e = by (is_clear a) refl e (none_since (after w a) xs)
  where
    by : (b : Bool) → is_clear a ≡ b → (not b && calm xs) ≡ true → (calm xs ≡ true → NoneSince (after w a) xs) → NoneSince w (a ∷ xs)
    by true f h rest = absurd (false≢true h)
    by false f h rest = (λ c. false≢true (sym f ∙ clears_asks w a c), rest h)

-- ---- the example

-- a Mighty Mux of 41 ports
abbrev board : Setting
board = setting_for MightyMux 8 41 256

-- just set up, each port with a character to send in single mode
abbrev unit : World
unit = after (world no_mux (replicate 32768 0o60101)) (sets_up board)

pub begun : Begun unit
unfolding everything
begun = record { mighty = refl; before = world no_mux (replicate 32768 0o60101); by = sets_up board; clears = setup board refl refl; now = refl }

-- it is started, its 41 ports are served, and START is given twice
abbrev events : List Single
events = does (Processor Doc) ∷ (replicate 41 look ++ (start ∷ start ∷ []))

-- the entry of each port in turn: output, addresses 32 to 71
abbrev ports : List ℕ
ports = tab 40 (λ k. 4096 + (32 + k) * 32)

pub record Overfilled : Type 0 where
  pub accepted : gather after accepts unit events ≡ ports
  pub removed : gather after removes unit events ≡ take 2 ports
  pub left : stacked (run_singles unit events) ≡ drop 2 ports
  pub raised : tally after raises_at unit events ≡ 41
  pub lost : tally after lost_at unit events ≡ 1
  pub mark : (irq (run_singles unit events)).lost ≡ true

pub overfilled : Overfilled
unfolding everything tab Machine.gather is_start asks_start starts_at unrefused removes entry_of accepts lost_at
overfilled = record { accepted = refl; removed = refl; left = refl; raised = refl; lost = refl; mark = refl }

-- it is one of those that `fifo` speaks of
pub spoken_of : gather after removes unit events ++ stacked (run_singles unit events) ≡ gather after accepts unit events
unfolding calm is_clear
spoken_of = fifo.in_order unit events begun (none_since unit events refl)
