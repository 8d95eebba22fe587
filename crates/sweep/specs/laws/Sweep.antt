-- Laws of a sweep (document 01, Sweep).
--   look                              the inspection that comes next
--   sweep_end, _stopped, _raised, _more   how a sweep goes on
--   Looks                             so many inspections one after the other, and whether the last one raised an interrupt
--   Sweeping, sweeps                  a sweep is the composition of the inspections it counts: n, or fewer only because the last one raised
--   Listed, one_listed                what one inspection leaves of the list
--   entry_example                     port 3, byte 65
--   handed, Gathers, gathers          the places used hold what the inspections handed over, in order
--   looks_keep                        what every inspection keeps, inspections one after the other keep
--   sweep_refused, sweep_accepted     the call
--   Gathered, gathered                the list of the call: what was handed over, and then the rest as it was
--   sweep_keeps, _sound, _ports       refused or not, the call leaves a sound record sound, and the array of ports as long as it was
-- In proofs/laws/Sweep, since they rest on these: sweeps, gathers, gathered, sweep_keeps, sweep_sound, sweep_ports.
-- Not here: what a sweep is, in specs/Sweep; that a list of calls may be read with its sweeps as inspections, in calls, laws/Singles.
-- Assumes nothing.
use Rattle.std.specs.Prelude.{◌≡◌, refl, Bool, true, false, List, [], ◌∷◌, ◌++◌, ℕ, zero, suc, ◌+◌, ◌≤◌, eqb, length, set, drop}
use Rattle.std.proofs.Common.{arith, length-set, eq-eqb, ne_eqb}
use Rattle.std.proofs.lemmas.List.Edits.{sets}
use Rattle.ground.specs.Choose.{pick, bit}
use Rattle.ground.specs.laws.Rows.{pick_true, pick-false}
use Rattle.unit.specs.declared.mux.Mux.{Mux}
use Rattle.unit.specs.Reply.{Answer}
use Rattle.unit.specs.declared.reply.Turn.TheVariants.{Nothing}
use Rattle.unit.specs.Reply.{refused, World, world, Looked, Outcome, outcome}
use Rattle.unit.specs.Refusals.{refusal, of_sweep}
use Rattle.scan.specs.Scan.{inspection}
use Rattle.scan.proofs.laws.Scan.{inspection_runs}
use Rattle.sweep.specs.Sweep.{Going, entry_of, entered, going, sweep_from, set_out, arrived_at, sweep}

-- the inspection that comes next
abbrev pub look : Going → Looked
look s = inspection s.mux s.memory

-- ---- how a sweep goes on

-- none is left to make
pub sweep_end : (s : Going) → sweep_from 0 s ≡ s
unfolding sweep_from
sweep_end s = refl

-- a stopped unit makes none
pub sweep_stopped : (n : ℕ) (s : Going) → s.mux.runs ≡ false → sweep_from n s ≡ s
unfolding sweep_from pick
sweep_stopped zero s r = refl
sweep_stopped (suc n) s r = rw r

-- it stops after an inspection that raises an interrupt
pub sweep_raised : (n : ℕ) (s : Going) → s.mux.runs ≡ true → (look s).reply.answer.raised ≡ true → sweep_from (suc n) s ≡ going s (look s)
unfolding sweep_from pick
sweep_raised n s r i = rw (i, r)

-- otherwise it goes on
pub sweep_more : (n : ℕ) (s : Going) → s.mux.runs ≡ true → (look s).reply.answer.raised ≡ false → sweep_from (suc n) s ≡ sweep_from n (going s (look s))
unfolding sweep_from pick
sweep_more n s r i = rw (i, r)

-- ---- the inspections that it makes

-- k inspections of a running unit, one after the other, of which none but the last may raise an interrupt; the bool says whether it did
pub data Looks : ℕ → Bool → Going → Going → Type 0 where
  none : {s : Going} → Looks 0 false s s
  last : {s : Going} → s.mux.runs ≡ true → (look s).reply.answer.raised ≡ true → Looks 1 true s (going s (look s))
  more : {k : ℕ} {b : Bool} {s t : Going} → s.mux.runs ≡ true → (look s).reply.answer.raised ≡ false → Looks k b (going s (look s)) t → Looks (suc k) b s t

-- a sweep of n inspections that went from s to t: how many it made, that its count says so, and that it made n unless the last one
-- raised an interrupt or the unit stood still
pub record Sweeping (n : ℕ) (s t : Going) : Type 0 where
  pub number : ℕ
  pub raised : Bool
  pub looks : Looks number raised s t
  pub few : number ≤ n
  pub count : t.made ≡ s.made + number
  pub all : s.mux.runs ≡ true → raised ≡ false → number ≡ n

-- one inspection more is counted as one
pub one_more : (s : Going) (l : Looked) → (going s l).made ≡ s.made + 1
unfolding going
one_more s l = refl

-- the unit runs on
pub runs_on : (s : Going) → (going s (look s)).mux.runs ≡ s.mux.runs
unfolding going
runs_on s = inspection_runs s.mux s.memory

-- ---- the list

-- what one inspection leaves of the list: its length, and at most one place more is used
pub record Listed (s t : Going) : Type 0 where
  pub long : length t.list ≡ length s.list
  pub most : t.used ≤ s.used + 1

pub one_listed : (s : Going) (l : Looked) → Listed s (going s l)
unfolding going entered pick bit
one_listed s l = go l.reply.answer.sent
  where
    go : (b : Bool) → Listed s (record { made = s.made + 1; used = s.used + bit b; mux = l.world.mux; memory = l.world.memory; list = pick b (set s.list s.used (entry_of l.reply.answer)) s.list })
    go true = record { long = length-set s.list s.used (entry_of l.reply.answer); most = omega arith }
    go false = record { long = refl; most = omega arith }

-- ---- what is handed over

-- the entry of port 3 and byte 65
pub entry_example : entry_of (record { turn = Nothing; port = 3; sent = true; byte = 65; raised = false }) ≡ 833
unfolding entry_of
entry_example = refl

-- what an inspection handed over, as the list has it
unfoldable pub handed_by : Answer → List ℕ
handed_by a = pick a.sent (entry_of a ∷ []) []

-- what k inspections hand over, one after the other
unfoldable pub handed : ℕ → World → List ℕ
handed zero w = []
handed (suc k) w =
    let l = inspection w.mux w.memory in
    handed_by l.reply.answer ++ handed k l.world

-- the record and the memory of a sweep on its way
abbrev pub standing : Going → World
standing s = world s.mux s.memory

-- k inspections have put into the list what they handed over, from its next free place on
pub record Gathers (k : ℕ) (s t : Going) : Type 0 where
  pub places : t.used ≡ s.used + length (handed k (standing s))
  pub list : t.list ≡ sets s.list s.used (handed k (standing s))

-- ---- what is kept

-- what every inspection keeps
abbrev pub Keeps : (Mux → Type 0) → Type 0
Keeps C = (u : Mux) (m : List ℕ) → C u → C (inspection u m).world.mux

pub looks_keep : (C : Mux → Type 0) → Keeps C → {k : ℕ} {b : Bool} {s t : Going} → Looks k b s t → C s.mux → C t.mux
unfolding going
looks_keep C e none c = c
looks_keep C e (last {s = s} r i) c = e s.mux s.memory c
looks_keep C e (more {s = s} r i rest) c = looks_keep C e rest (e s.mux s.memory c)

-- ---- the call

-- a refused sweep gives its number; its counts are 0 and its list is as it was
pub sweep_refused : (u : Mux) (m : List ℕ) (n : ℕ) (xs : List ℕ) → (refusal (of_sweep u m n xs) ≡ 0 → ⊥) → sweep u m n xs ≡ outcome (refused (refusal (of_sweep u m n xs)) u) m xs
unfolding sweep
sweep_refused u m n xs h =
    pick-false (eqb (refusal (of_sweep u m n xs)) 0) (arrived_at (sweep_from n (set_out u m xs))) (outcome (refused (refusal (of_sweep u m n xs)) u) m xs) (ne_eqb _ _ h)

-- a sweep that is not refused
pub sweep_accepted : (u : Mux) (m : List ℕ) (n : ℕ) (xs : List ℕ) → refusal (of_sweep u m n xs) ≡ 0 → sweep u m n xs ≡ arrived_at (sweep_from n (set_out u m xs))
unfolding sweep
sweep_accepted u m n xs e =
    pick_true (eqb (refusal (of_sweep u m n xs)) 0) (arrived_at (sweep_from n (set_out u m xs))) (outcome (refused (refusal (of_sweep u m n xs)) u) m xs) (eq-eqb _ _ e)

-- the list xs after a sweep that is not refused: as many places are used as bytes were handed over by the inspections it made, they hold these in
-- order, each as port·256 + byte, and every place after them is as it was
pub record Gathered (w : World) (xs : List ℕ) (o : Outcome) : Type 0 where
  pub places : o.reply.used ≡ length (handed o.reply.made w)
  pub list : o.list ≡ handed o.reply.made w ++ drop o.reply.used xs
