-- The bounds are real and no wider than they must be, and the words mean what they say: examples.
--   echoing, typing             a port whose own echo fills its transmitter; one whose input is served first and its output then
--   Real, real                  both bounds are reached, and the exception of the second is real
--   over_at_once                a wait that the first of a list makes over
--   held_down .. key_held_down   a key held down: a character that one of the same code and marks replaced is not broken off by a stop that comes later
--   idle_line, idle_line_lem         an idle line: once its output was served, a stop that comes later breaks no wait
-- Not here: the bounds themselves, in Enough of proofs/laws; what each of the four inspections served, in calls, Examples.
-- Assumes nothing.
use Rattle.std.specs.Prelude.{◌≡◌, refl, Bool, true, false, List, [], ◌∷◌, ◌++◌, get_or, replicate, set}
use Rattle.std.proofs.Common.{sym, ◌∙◌, ap, true≢false, arith}
use Rattle.ground.specs.Choose.{bit}
use Rattle.ground.specs.Machine.{run, total, tally, Until}
use Rattle.words.specs.Field.{put}
use Rattle.words.specs.Codes.{INMO, in_echo}
use Rattle.unit.specs.declared.mux.Character.{Character}
use Rattle.unit.specs.Record.{port_at}
use Rattle.unit.specs.Reply.{World}
use Rattle.processor.specs.declared.orders.Order.TheVariants.{Dob}
use Rattle.calls.specs.declared.call.Act.TheVariants.{Processor}
use Rattle.calls.specs.Events.{Single, does, after, run_singles}
use Rattle.calls.specs.Examples.{unit_after, look, typed, clear, filling, waiting}
use Rattle.calls.specs.laws.Examples.{everything}
use Rattle.waiting.specs.Counting.{service_at, output_at, unrefused, is_arrival, brings_to, takes_at}
use Rattle.waiting.specs.Waiting.{Holds, Empty, Stops, inspections, inputs, outputs, taken, Broken, OutputBroken}

-- one port, its input automatic with echo, its buffer not near the end; its transmitter is empty, and a character has arrived
abbrev pub echoing : World
echoing = unit_after 8 1 64 (set (filling 2000 3000) 64 (put INMO in_echo 0)) (typed 0 65 ∷ [])

-- one port in single mode, its transmitter empty, and a character has arrived
abbrev pub typing : World
typing = unit_after 8 1 64 clear (typed 0 7 ∷ [])

-- what is computed
pub record Real : Type 0 where
  -- four ports, the position at 1, a character at port 0: the fourth inspection serves it, and a fifth does not serve it again
  pub counted : inspections waiting (replicate 4 look) ≡ 4
  pub third : inputs 0 waiting (replicate 3 look) ≡ 0
  pub fourth : inputs 0 waiting (replicate 4 look) ≡ 1
  pub fifth : inputs 0 waiting (replicate 5 look) ≡ 1
  -- (1 + 1) · P inspections with P 1: the first goes to input, the second serves the output
  pub first_in : inputs 0 typing (replicate 1 look) ≡ 1
  pub not_yet : outputs 0 typing (replicate 1 look) ≡ 0
  pub then : outputs 0 typing (replicate 2 look) ≡ 1
  -- the exception of the second bound: (1 + 1) · P inspections with P 1, one own turn to input, and no output, for the echo filled the transmitter
  pub empty : Empty 0 echoing
  pub both : inspections echoing (replicate 2 look) ≡ 2
  pub one : inputs 0 echoing (replicate 2 look) ≡ 1
  pub full : (port_at (after echoing look).mux 0).empty ≡ false
  pub none : outputs 0 echoing (replicate 2 look) ≡ 0

pub real : Real
unfolding everything service_at
real = record { counted = refl; third = refl; fourth = refl; fifth = refl; first_in = refl; not_yet = refl; then = refl; empty = refl; both = refl; one = refl; full = refl; none = refl }

-- ---- a wait that is over at once

-- where the first of a list passes a test and stops nothing, no stop ends a wait in which nothing passed the test
over_at_once : (w : World) (xs : List Single) (test : World → Single → Bool) → bit (test w (get_or xs 0 look)) ≡ 1 → (after w (get_or xs 0 look)).mux.runs ≡ true → {C : World → Type 0} (u : Until after C w xs) → tally after test w u.before ≡ 0 → Stops (run_singles w u.before) u.here → ⊥
unfolding total run
over_at_once w xs test first runs u = by u.before u.here u.later u.whole
  where
    by : (before : List Single) (here : Single) (later : List Single) → xs ≡ before ++ (here ∷ later) → tally after test w before ≡ 0 → Stops (run_singles w before) here → ⊥
    by [] here later e n s = true≢false (sym runs ∙ ap (λ l. (after w (get_or l 0 look)).mux.runs) e ∙ s)
    by (a ∷ before) here later e n s = omega (arith, n, first, ap (λ l. bit (test w (get_or l 0 look))) e)

-- ---- a key held down

-- one port that holds a marked character: the same key came twice
abbrev pub held_down : World
held_down = unit_after 8 1 64 clear (typed 0 65 ∷ typed 0 65 ∷ [])

-- the character that it holds, and what comes: the same key again, and then a stop
abbrev pub key : Character
key = (port_at held_down.mux 0).ch

abbrev pub again_and_stop : List Single
again_and_stop = typed 0 65 ∷ does (Processor Dob) ∷ []

-- all along port 0 holds a character of that code and those marks, and it is another one
pub record Looks : Type 0 where
  pub first : Holds 0 key held_down
  pub still : Holds 0 key (after held_down (typed 0 65))
  pub other : taken 0 held_down (typed 0 65 ∷ []) ≡ 1

pub looks : Looks
unfolding everything takes_at brings_to is_arrival unrefused
looks = record { first = record { held = refl; same = refl }; still = record { held = refl; same = refl }; other = refl }

-- the stop did not break its wait, which was over
pub key_held_down : Broken 0 key held_down again_and_stop → ⊥
unfolding everything takes_at brings_to is_arrival unrefused
key_held_down b = over_at_once held_down again_and_stop (takes_at 0) refl refl b.wait b.bound.alone b.end

-- ---- an idle line

-- two ports, nothing to send
abbrev pub idle_line : World
idle_line = unit_after 8 2 64 clear []

-- port 0's turn, which serves its output and hands nothing over, and then a stop
abbrev pub turn_and_stop : List Single
turn_and_stop = look ∷ does (Processor Dob) ∷ []

-- the transmitter is still empty when the stop comes, and the wait was over
pub idle_line_lem : OutputBroken 0 idle_line turn_and_stop → ⊥
unfolding everything service_at
idle_line_lem b = over_at_once idle_line turn_and_stop (output_at 0) refl refl b.wait b.bound.unserved b.end
