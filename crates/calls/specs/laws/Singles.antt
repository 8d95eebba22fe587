-- A sweep is the inspections that it makes: a list of events comes to a list of single things, with the same world after it.
--   singles_single  every list of single things is what some events come to
--   write_is        a host write puts in its words, leaves the record and answers nothing
--   sweep_counts    a sweep makes exactly as many counted inspections as it says
-- In proofs/laws/Singles, since they rest on these: run_singles_lem.
-- Not here: what an event and a single thing are, in specs/Events; how long anybody waits, in waiting.
-- Assumes nothing.
use Rattle.std.specs.Prelude.{◌≡◌, refl, Bool, true, List, [], ◌∷◌, map, ℕ, length, replicate}
use Rattle.std.proofs.Common.{sym, ◌∙◌, arith, zero-add}
use Rattle.std.proofs.Math.Path.{ap}
use Rattle.std.proofs.Math.Decide.{ℕ_discrete}
use Rattle.ground.specs.Choose.{bit}
use Rattle.ground.specs.Machine
use Rattle.ground.specs.Machine.{total, tally}
use Rattle.unit.specs.declared.mux.Setting.{Setting}
use Rattle.unit.specs.Reply.{nothing, World, world}
use Rattle.unit.specs.Refusals.{WORDS, refusal, of_sweep}
use Rattle.unit.specs.Sound.{Sound}
use Rattle.unit.proofs.laws.Sound.{sweep_iff}
use Rattle.scan.proofs.laws.Scan.{sound_scans, scan_moves, inspection_sound}
use Rattle.sweep.specs.Sweep.{Going, going, set_out, sweep}
use Rattle.sweep.specs.laws.Sweep.{look, Looks, none, last, more, standing, sweep_refused, sweep_accepted}
use Rattle.sweep.proofs.laws.Sweep.{sweeps}
use Rattle.calls.specs.declared.call.Act.TheVariants.{Inspect}
use Rattle.calls.specs.declared.call.What.TheVariants.{Sweep}
use Rattle.calls.specs.Calls.{performed}
use Rattle.calls.specs.Events.{happens, Single, sets_up, does, writes, single, result, after, run_singles, singles_in, singles_of, singles, counted}

-- ---- a sweep

-- an inspection of a sweep on its way
inspect_at : (s : Going) → after (standing s) (does Inspect) ≡ standing (going s (look s))
unfolding result performed going
inspect_at s = refl

-- inspections one after the other
looks_run : {k : ℕ} {b : Bool} {s t : Going} → Looks k b s t → run_singles (standing s) (replicate k (does Inspect)) ≡ standing t
unfolding Machine.run
looks_run none = refl
looks_run (last {s = s} r i) = inspect_at s
looks_run (more {k = k} {s = s} r i rest) = ap (λ w. run_singles w (replicate k (does Inspect))) (inspect_at s) ∙ looks_run rest

-- a sweep on its way that may go on: the unit is sound, and the memory has its words
record Ready (s : Going) : Type 0 where
  sound : Sound s.mux
  words : length s.memory ≡ WORDS

-- its next inspection counts
look_counts : (s : Going) → Ready s → s.mux.runs ≡ true → counted (standing s) (does Inspect) ≡ true
unfolding counted result performed
look_counts s h r = rw (sound_scans s.mux s.memory h.sound r h.words) (scan_moves s.mux s.memory).is_turn

-- and it may go on after that
look_ready : (s : Going) → Ready s → s.mux.runs ≡ true → Ready (going s (look s))
unfolding going
look_ready s h r =
    record {
      sound = inspection_sound s.mux s.memory h.sound;
      words = rw (sound_scans s.mux s.memory h.sound r h.words) ((scan_moves s.mux s.memory).words ∙ h.words);
    }

-- each of them counts
looks_count : {k : ℕ} {b : Bool} {s t : Going} → Ready s → Looks k b s t → tally after counted (standing s) (replicate k (does Inspect)) ≡ k
unfolding total bit
looks_count h none = refl
looks_count h (last {s = s} r i) = rw (look_counts s h r)
looks_count h (more {k = k} {s = s} r i rest) =
    rw (look_counts s h r, inspect_at s)
    (omega (arith, looks_count (look_ready s h r) rest))

-- ---- the calls

module _ (w : World) (n : ℕ) (list : List ℕ) where
  -- a sweep that is not refused says how many it made
  says_made : refusal (of_sweep w.mux w.memory n list) ≡ 0 → (sweep w.mux w.memory n list).reply.made ≡ (sweeps n (set_out w.mux w.memory list)).number
  says_made e =
      let t = sweeps n (set_out w.mux w.memory list) in
      ap (λ g. g.reply.made) (sweep_accepted w.mux w.memory n list e) ∙ t.count ∙ zero-add t.number

  -- a sweep comes to the inspections that it makes
  pub sweep_singles : run_singles w (replicate (sweep w.mux w.memory n list).reply.made (does Inspect)) ≡ (sweep w.mux w.memory n list).world
  unfolding Machine.run
  sweep_singles = go (ℕ_discrete (refusal (of_sweep w.mux w.memory n list)) 0)
    where
      go : Dec (refusal (of_sweep w.mux w.memory n list) ≡ 0) → run_singles w (replicate (sweep w.mux w.memory n list).reply.made (does Inspect)) ≡ (sweep w.mux w.memory n list).world
      go (yes e) =
          ap (λ k. run_singles w (replicate k (does Inspect))) (says_made e)
          ∙ looks_run (sweeps n (set_out w.mux w.memory list)).looks
          ∙ ap (λ g. g.world) (sym (sweep_accepted w.mux w.memory n list e))
      go (no h) = rw (sweep_refused w.mux w.memory n list h)

  -- a sweep makes exactly as many counted inspections as it says: a refused one makes none
  pub sweep_counts : (s : Setting) → tally after counted w (singles_in w list s (Sweep n)) ≡ (sweep w.mux w.memory n list).reply.made
  unfolding singles_in total
  sweep_counts s = go (ℕ_discrete (refusal (of_sweep w.mux w.memory n list)) 0)
    where
      go : Dec (refusal (of_sweep w.mux w.memory n list) ≡ 0) → tally after counted w (replicate (sweep w.mux w.memory n list).reply.made (does Inspect)) ≡ (sweep w.mux w.memory n list).reply.made
      go (yes e) =
          let t = (sweep_iff w.mux w.memory n list).0 e in
          rw (says_made e)
          (looks_count (record { sound = t.sound; words = t.words }) (sweeps n (set_out w.mux w.memory list)).looks)
      go (no h) = rw (sweep_refused w.mux w.memory n list h)

-- single things made as events come to themselves
pub singles_single : (w : World) (xs : List Single) → singles w (map single xs) ≡ xs
unfolding singles singles_of singles_in single
singles_single w [] = refl
singles_single w (sets_up s ∷ xs) = ap (λ l. sets_up s ∷ l) (singles_single (happens w (single (sets_up s))) xs)
singles_single w (does a ∷ xs) = ap (λ l. does a ∷ l) (singles_single (happens w (single (does a))) xs)
singles_single w (writes m ∷ xs) = ap (λ l. writes m ∷ l) (singles_single (happens w (single (writes m))) xs)

-- a host write puts in its words, leaves the record and answers nothing
pub write_is : (w : World) (m : List ℕ) → result w (writes m) ≡ record { reply = record { code = 0; value = 0; answer = nothing; made = 0; used = 0 }; world = world w.mux m }
unfolding result
write_is w m = refl
