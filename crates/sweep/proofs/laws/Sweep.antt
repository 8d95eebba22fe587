-- Laws of a sweep (document 01, Sweep).
--   Sweeping, sweeps                  a sweep is the composition of the inspections it counts: n, or fewer only because the last one raised
--   handed, Gathers, gathers          the places used hold what the inspections handed over, in order
--   Gathered, gathered                the list of the call: what was handed over, and then the rest as it was
--   sweep_keeps, _sound, _ports       refused or not, the call leaves a sound record sound, and the array of ports as long as it was
-- Here, and not in specs/laws/Sweep, is what rests on other laws of specs/: an edit of a definition counts as refused where nothing in specs/ rests on the
-- law that it breaks.
-- Assumes nothing.
use Rattle.std.specs.Prelude.{◌≡◌, refl, Bool, true, false, List, [], ◌∷◌, ◌++◌, ℕ, zero, suc, ◌+◌, ◌≤◌, length, set, drop}
use Rattle.std.proofs.Common.{sym, ◌∙◌, ap, true≢false, zero-add, add-zero, arith}
use Rattle.std.proofs.Math.Decide.{ℕ_discrete}
use Rattle.std.proofs.lemmas.List.Edits.{sets, sets-eq}
use Rattle.ground.specs.Choose.{pick, bit}
use Rattle.unit.specs.declared.mux.Mux.{Mux}
use Rattle.unit.specs.Reply.{Answer}
use Rattle.unit.specs.Reply.{World, world, Looked}
use Rattle.unit.specs.Refusals.{refusal, of_sweep}
use Rattle.unit.specs.Sound.{Sound}
use Rattle.unit.proofs.laws.Sound.{sweep_iff}
use Rattle.scan.specs.Scan.{inspection}
use Rattle.scan.proofs.laws.Scan.{inspection_sound, inspection_ports}
use Rattle.sweep.specs.Sweep.{Going, entry_of, entered, going, sweep_from, set_out, sweep}
use Rattle.sweep.specs.laws.Sweep.{look, sweep_end, sweep_stopped, sweep_raised, sweep_more, Looks, Sweeping, one_more, runs_on, handed_by, handed, Gathers, Keeps, looks_keep, sweep_refused, sweep_accepted, Gathered, none, last, more}

-- ---- the inspections that it makes

-- every sweep is one
pub sweeps : (n : ℕ) (s : Going) → Sweeping n s (sweep_from n s)
sweeps zero s =
    rw (sweep_end s) (record { number = 0; raised = false; looks = none; few = omega arith; count = omega arith; all = λ r b. refl })
sweeps (suc n) s = go s.mux.runs refl (look s).reply.answer.raised refl (sweeps n (going s (look s)))
  where
    go : (r : Bool) → s.mux.runs ≡ r → (i : Bool) → (look s).reply.answer.raised ≡ i → Sweeping n (going s (look s)) (sweep_from n (going s (look s))) → Sweeping (suc n) s (sweep_from (suc n) s)
    go false er i ei rest =
        rw (sweep_stopped (suc n) s er)
        (record { number = 0; raised = false; looks = none; few = omega arith; count = omega arith; all = λ r b. absurd (true≢false (sym r ∙ er)) })
    go true er true ei rest =
        rw (sweep_raised n s er ei)
        (record { number = 1; raised = true; looks = last er ei; few = omega arith; count = one_more s (look s); all = λ r b. absurd (true≢false b) })
    go true er false ei rest =
        rw (sweep_more n s er ei)
        (record {
          number = suc rest.number;
          raised = rest.raised;
          looks = more er ei rest.looks;
          few = omega arith;
          count = omega (arith, one_more s (look s), rest.count);
          all = λ r b. ap suc (rest.all (runs_on s ∙ er) b);
        })

-- ---- what is handed over

-- entering what one handed over, and then the rest, is entering all of it
enters : (a : Answer) (used : ℕ) (xs rest : List ℕ) → sets (entered a used xs) (used + bit a.sent) rest ≡ sets xs used (handed_by a ++ rest)
unfolding entered handed_by pick bit
enters a used xs rest = by a.sent
  where
    by : (b : Bool) → sets (pick b (set xs used (entry_of a)) xs) (used + bit b) rest ≡ sets xs used (pick {A = List ℕ} b (entry_of a ∷ []) [] ++ rest)
    by true = ap (λ (k : ℕ). sets (set xs used (entry_of a)) k rest) (omega arith)
    by false = ap (λ (k : ℕ). sets xs k rest) (add-zero used)

takes : (a : Answer) (used : ℕ) (rest : List ℕ) → used + bit a.sent + length rest ≡ used + length (handed_by a ++ rest)
unfolding handed_by pick bit
takes a used rest = by a.sent
  where
    by : (b : Bool) → used + bit b + length rest ≡ used + length (pick {A = List ℕ} b (entry_of a ∷ []) [] ++ rest)
    by true = omega arith
    by false = omega arith

then_gathers : {k : ℕ} {s t : Going} → Gathers k (going s (look s)) t → Gathers (suc k) s t
unfolding going handed
then_gathers {k = k} {s = s} g =
    let l = look s in
    let a = l.reply.answer in
    record {
      places = g.places ∙ takes a s.used (handed k l.world);
      list = g.list ∙ enters a s.used s.list (handed k l.world);
    }

no_more : (s : Going) → Gathers 0 s s
unfolding handed
no_more s = record { places = sym (add-zero s.used); list = refl }

-- inspections one after the other
pub gathers : {k : ℕ} {b : Bool} {s t : Going} → Looks k b s t → Gathers k s t
gathers (none {s = s}) = no_more s
gathers (last {s = s} r i) = then_gathers (no_more (going s (look s)))
gathers (more r i rest) = then_gathers (gathers rest)

-- inspections hand over no more than they are
handed_few : (k : ℕ) (w : World) → length (handed k w) ≤ k
unfolding handed handed_by pick
handed_few zero w = omega arith
handed_few (suc k) w = by l.reply.answer.sent (handed_few k l.world)
  where
    l : Looked
    l = inspection w.mux w.memory

    by : (b : Bool) → length (handed k l.world) ≤ k → length (pick {A = List ℕ} b (entry_of l.reply.answer ∷ []) [] ++ handed k l.world) ≤ suc k
    by true h = omega arith
    by false h = omega arith

-- ---- the call

pub gathered : (u : Mux) (m : List ℕ) (n : ℕ) (xs : List ℕ) → refusal (of_sweep u m n xs) ≡ 0 → Gathered (world u m) xs (sweep u m n xs)
gathered u m n xs e =
    let w = world u m in
    let s = set_out u m xs in
    let t = sweep_from n s in
    let went = sweeps n s in
    let k = went.number in
    let g = gathers went.looks in
    let made : k ≡ t.made = omega (arith, went.count) in
    let fits : 0 + length (handed k w) ≤ length xs = omega (arith, handed_few k w, went.few, ((sweep_iff u m n xs).0 e).places) in
    rw (sweep_accepted u m n xs e)
    (record {
      places = g.places ∙ zero-add (length (handed k w)) ∙ ap (λ (j : ℕ). length (handed j w)) made;
      list =
          g.list
          ∙ sets-eq (handed k w) xs 0 fits
          ∙ ap (λ (j : ℕ). handed k w ++ drop j xs) (sym g.places)
          ∙ ap (λ (j : ℕ). handed j w ++ drop t.used xs) made;
    })

-- ---- the record after the call, refused or not

-- what every inspection keeps, a sweep keeps
pub sweep_keeps : (C : Mux → Type 0) → Keeps C → (u : Mux) (m : List ℕ) (n : ℕ) (xs : List ℕ) → C u → C (sweep u m n xs).world.mux
sweep_keeps C each u m n xs c = go (ℕ_discrete (refusal (of_sweep u m n xs)) 0)
  where
    go : Dec (refusal (of_sweep u m n xs) ≡ 0) → C (sweep u m n xs).world.mux
    go (yes e) = rw (sweep_accepted u m n xs e) (looks_keep C each (sweeps n (set_out u m xs)).looks c)
    go (no h) = rw (sweep_refused u m n xs h) c

-- a sound record stays sound
pub sweep_sound : (u : Mux) (m : List ℕ) (n : ℕ) (xs : List ℕ) → Sound u → Sound (sweep u m n xs).world.mux
sweep_sound = sweep_keeps Sound inspection_sound

-- the array of ports is as long as it was
pub sweep_ports : (u : Mux) (m : List ℕ) (n : ℕ) (xs : List ℕ) → length (sweep u m n xs).world.mux.port ≡ length u.port
sweep_ports u m n xs = sweep_keeps (λ v. length v.port ≡ length u.port) (λ v k e. inspection_ports v k ∙ e) u m n xs refl
