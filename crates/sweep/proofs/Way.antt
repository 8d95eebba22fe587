-- A sweep of a running unit on its way: what holds before each inspection, and again after it.
--   On       the inspections left to make of n are the rest of the sweep that began at s₀
--   set_on   it holds at the start
--   named    the next inspection names one of 128 ports
--   joined   what it leaves, by what was entered in the list
--   again    it holds after one inspection more that raised no interrupt
--   stopped_by, off   the sweep is at its end after one that raised one, and where none is left
--   sound, whole, few, places   what a sweep that is not refused may count on
--   stands   a stopped unit makes none
-- Assumes nothing.
use Rattle.std.specs.Prelude.{◌≡◌, refl, Bool, true, false, List, ℕ, suc, ◌+◌, ◌-◌, ◌<◌, ◌≤◌, length}
use Rattle.std.proofs.Common.{sym, ◌∙◌, ap, arith}
use Rattle.ground.specs.laws.Rows.{bit_below}
use Rattle.unit.specs.declared.mux.Mux.{Mux}
use Rattle.unit.specs.Reply.{Answer, Looked, looked, answered}
use Rattle.unit.specs.Refusals.{WORDS, MOST-INSPECTIONS, refusal, of_sweep}
use Rattle.unit.specs.Sound.{Sound}
use Rattle.unit.proofs.laws.Sound.{sweep_iff}
use Rattle.scan.specs.Scan.{scanned}
use Rattle.scan.specs.laws.Scan.{Moves, moves_sound}
use Rattle.scan.proofs.laws.Scan.{sound_scans, scan_moves}
use Rattle.sweep.specs.Sweep.{Going, Entered, going, sweep_from, set_out}
use Rattle.sweep.specs.laws.Sweep.{look, sweep_end, sweep_stopped, sweep_raised, sweep_more}

pub record On (n : ℕ) (s₀ s : Going) : Type 0 where
  pub sound : Sound s.mux
  pub words : length s.memory ≡ WORDS
  pub runs : s.mux.runs ≡ true
  pub behind : s.used ≤ s.made
  pub rest : sweep_from (n - s.made) s ≡ sweep_from n s₀

pub set_on : (u : Mux) (m : List ℕ) (n : ℕ) (xs : List ℕ) → Sound u → length m ≡ WORDS → u.runs ≡ true → On n (set_out u m xs) (set_out u m xs)
set_on u m n xs s w r =
    let all : n - 0 ≡ n = omega arith in
    record { sound = s; words = w; runs = r; behind = omega arith; rest = rw all refl }

-- where none is left, the sweep is at its end
pub off : {n : ℕ} {s₀ s : Going} → On n s₀ s → n ≤ s.made → s ≡ sweep_from n s₀
off {n} {s₀} {s} o h =
    let none : n - s.made ≡ 0 = omega arith in
    sym (sweep_end s) ∙ ap (λ (k : ℕ). sweep_from k s) (sym none) ∙ o.rest

-- the next inspection is a turn
turns : {n : ℕ} {s₀ s : Going} → On n s₀ s → look s ≡ scanned s.mux s.memory
turns {s = s} o = sound_scans s.mux s.memory o.sound o.runs o.words

moves : (s : Going) (l : Looked) → l ≡ scanned s.mux s.memory → Moves s.mux s.memory l
moves s l e = rw e (scan_moves s.mux s.memory)

-- it names one of 128 ports
pub named : {n : ℕ} {s₀ s : Going} {a : Answer} {v : Mux} {m : List ℕ} → On n s₀ s → looked (answered a v) m ≡ scanned s.mux s.memory → a.port < 128
named {s = s} {a} {v} {m} o e =
    let d : Moves s.mux s.memory (looked (answered a v) m) = moves s _ e in
    omega (arith, d.names, o.sound.position, o.sound.setting.size.few_ports)

-- what it leaves, by what was entered in the list
pub joined : (s : Going) {a : Answer} {v : Mux} {m : List ℕ} {used : ℕ} {xs : List ℕ} → Entered a s.used s.list used xs → record { made = s.made + 1; used = used; mux = v; memory = m; list = xs } ≡ going s (looked (answered a v) m)
unfolding going
joined s h = rw (h.places, h.list) refl

-- one inspection more: l is what it left, and t the sweep after it
module _ {n : ℕ} {s₀ s t : Going} {l : Looked} (o : On n s₀ s) (here : s.made < n) (e : l ≡ scanned s.mux s.memory) (g : t ≡ going s l) where
  at_look : t ≡ going s (look s)
  at_look = g ∙ ap (going s) (e ∙ sym (turns o))

  raised_as : (b : Bool) → l.reply.answer.raised ≡ b → (look s).reply.answer.raised ≡ b
  raised_as b r = ap (λ (k : Looked). k.reply.answer.raised) (turns o ∙ sym e) ∙ r

  left : n - s.made ≡ suc (n - (s.made + 1))
  left = omega arith

  pub stopped_by : l.reply.answer.raised ≡ true → t ≡ sweep_from n s₀
  stopped_by r =
      at_look
      ∙ sym (sweep_raised (n - (s.made + 1)) s o.runs (raised_as true r))
      ∙ ap (λ (k : ℕ). sweep_from k s) (sym left)
      ∙ o.rest

  pub again : l.reply.answer.raised ≡ false → On n s₀ t
  unfolding going
  again r =
      let d : Moves s.mux s.memory l = moves s _ e in
      let made : t.made ≡ s.made + 1 = ap (λ (k : Going). k.made) g in
      record {
        sound = rw g (moves_sound s.mux s.memory l d o.sound);
        words = ap (λ (k : Going). length k.memory) g ∙ d.words ∙ o.words;
        runs = ap (λ (k : Going). k.mux.runs) g ∙ d.runs ∙ o.runs;
        behind = omega (arith, ap (λ (k : Going). k.used) g, made, bit_below l.reply.answer.sent, o.behind);
        rest =
            ap (λ (k : ℕ). sweep_from (n - k) t) made
            ∙ ap (sweep_from (n - (s.made + 1))) at_look
            ∙ sym (sweep_more (n - (s.made + 1)) s o.runs (raised_as false r))
            ∙ ap (λ (k : ℕ). sweep_from k s) (sym left)
            ∙ o.rest;
      }

-- ---- the call

module _ (u : Mux) (m : List ℕ) (n : ℕ) (xs : List ℕ) (h : 0 ≡ refusal (of_sweep u m n xs)) where
  pub sound : Sound u
  sound = ((sweep_iff u m n xs).0 (sym h)).sound

  pub whole : length m ≡ WORDS
  whole = ((sweep_iff u m n xs).0 (sym h)).words

  pub few : n ≤ MOST-INSPECTIONS
  few = ((sweep_iff u m n xs).0 (sym h)).few

  pub places : n ≤ length xs
  places = ((sweep_iff u m n xs).0 (sym h)).places

pub stands : (u : Mux) (m : List ℕ) (n : ℕ) (xs : List ℕ) → u.runs ≡ false → sweep_from n (set_out u m xs) ≡ set_out u m xs
stands u m n xs r = sweep_stopped n (set_out u m xs) r
