-- What a check of the table found, for the functions that ask with `?`: a refusal has a number, and the call that asked has that one.
--   stops, passes          of a number that comes first where it is not 0: it is the refusal's; it is 0, and the rest is asked
--   refuses, takes         the same of a call on the record
--   size_stops .. area_says   setup's number, part by part
--   unsound_by             row 6, by what was found of the setting
--   port_stops .. sweep_asks   the other calls: refused as the smaller call is, or by their own rows
use Rattle.std.specs.Prelude.{◌≡◌, refl, Bool, true, false, not, ◌||◌, List, ℕ, eqb, leb, ltb, length, Result, Ok, Err, is_err}
use Rattle.std.proofs.Common.{sym, ◌∙◌, ap, eq-eqb, ne_eqb}
use Rattle.ground.specs.Choose.{pick, asked, first_of}
use Rattle.interrupt.specs.Interrupt as Interrupt
use Rattle.unit.specs.declared.mux.Setting.{Setting}
use Rattle.unit.specs.declared.mux.Mux.{Mux}
use Rattle.unit.specs.declared.refusal.Refusal.{Refusal}
use Rattle.unit.specs.declared.refusal.Refusal.TheVariants.{BadBlock, BadPorts, Misaligned, Crosses, Unsound, BadMemory, NoPort, TooMany, ShortList, TooHigh, BadLocation}
use Rattle.unit.specs.Refusals.{WORDS, MOST-INSPECTIONS, BAD-MEMORY, NO-PORT, TOO-MANY, SHORT-LIST, size_rows, base_rows, area_rows, unsound, rows_of, call_rows, table_of, refusal, of_setup, of_unit, of_port, of_inspection, of_sweep, number_of, code_of}
use Rattle.unit.specs.Reply.{Replied, refused, guarded}
use Rattle.unit.specs.Sound.{SizeFits, BaseFits}
use Rattle.unit.specs.laws.Refusals.{by_size, by_base, by_area, inspection_refusal, sweep_refusal}
use Rattle.unit.specs.laws.Sound.{size_fits, base_fits}
use Rattle.unit.proofs.laws.Refusals.{setting_unsound, setting_passed}

-- ---- a number that comes first

numbered : (e : Refusal) → eqb (number_of e) 0 ≡ false
numbered BadBlock = refl
numbered BadPorts = refl
numbered Misaligned = refl
numbered Crosses = refl
numbered Unsound = refl
numbered BadMemory = refl
numbered NoPort = refl
numbered TooMany = refl
numbered ShortList = refl
numbered TooHigh = refl
numbered BadLocation = refl

not_0 : (e : Refusal) (k : ℕ) → number_of e ≡ k → k ≡ 0 → ⊥
not_0 e k h z = cc (numbered e, eq-eqb _ _ (h ∙ z))

pub stops : {A : Type 0} (e : Refusal) (k : ℕ) (x y : A) → number_of e ≡ k → pick (eqb k 0) x y ≡ y
unfolding pick
stops e k x y h = rw (ne_eqb k 0 (not_0 e k h))

pub passes : {A : Type 0} (k : ℕ) (x y : A) → 0 ≡ k → pick (eqb k 0) x y ≡ x
unfolding pick
passes k x y h = rw (eq-eqb k 0 (sym h))

-- a call on a record is refused, or does what it does
pub refuses : (e : Refusal) (k : ℕ) (u : Mux) (r : Replied) → number_of e ≡ k → guarded k u r ≡ refused (number_of e) u
unfolding guarded
refuses e k u r h = stops e k r (refused k u) h ∙ ap (λ n. refused n u) (sym h)

pub takes : (k : ℕ) (u : Mux) (r : Replied) → 0 ≡ k → guarded k u r ≡ r
unfolding guarded
takes k u r h = passes k r (refused k u) h

-- ---- setup's number

pub size_stops : (s : Setting) (e : Refusal) → number_of e ≡ first_of (size_rows s) → refusal (of_setup s) ≡ number_of e
size_stops s e h = by_size s (not_0 e _ h) ∙ sym h

pub size_passes : (s : Setting) → 0 ≡ first_of (size_rows s) → SizeFits s
size_passes s h = (size_fits s).0 (sym h)

pub base_stops : (s : Setting) (e : Refusal) → 0 ≡ first_of (size_rows s) → number_of e ≡ first_of (base_rows s) → refusal (of_setup s) ≡ number_of e
base_stops s e z h = by_base s (sym z) (not_0 e _ h) ∙ sym h

pub base_passes : (s : Setting) → 0 ≡ first_of (base_rows s) → BaseFits s
base_passes s h = (base_fits s).0 (sym h)

pub area_says : (s : Setting) (k : ℕ) → 0 ≡ first_of (size_rows s) → 0 ≡ first_of (base_rows s) → k ≡ first_of (area_rows s) → refusal (of_setup s) ≡ k
area_says s k z y h = by_area s (sym z) (sym y) ∙ sym h

-- ---- row 6

pub unsound_by : (u : Mux) (r : Result (Unit {0}) Refusal) → code_of r ≡ refusal (of_setup u.setting) → unsound u ≡ (is_err r || (leb u.setting.ports u.pos || Interrupt.unsound u.irq))
unsound_by u (Ok found) h = setting_passed u (sym h)
unsound_by u (Err e) h = setting_unsound u (not_0 e _ h)

-- ---- a port's number is its record's, and then row 8

port_refusal : (u : Mux) (p : ℕ) → refusal (of_port u p) ≡ pick (eqb (refusal (of_unit u)) 0) (pick (leb u.setting.ports p) NO-PORT 0) (refusal (of_unit u))
unfolding refusal table_of rows_of call_rows first_of asked pick
port_refusal u p = cases (unsound u) (leb u.setting.ports p)
  where
    cases : (s t : Bool) → ◌≡◌ {A = ℕ} (pick s 6 (pick t 8 0)) (pick (eqb (pick s 6 0) 0) (pick t 8 0) (pick s 6 0))
    cases true t = refl
    cases false t = refl

-- ---- the other calls: refused as the smaller call is, or by their own rows

pub port_stops : (u : Mux) (p : ℕ) (e : Refusal) → number_of e ≡ refusal (of_unit u) → refusal (of_port u p) ≡ number_of e
port_stops u p e h = port_refusal u p ∙ stops e _ _ _ h ∙ sym h

pub port_asks : (u : Mux) (p : ℕ) → 0 ≡ refusal (of_unit u) → refusal (of_port u p) ≡ pick (leb u.setting.ports p) NO-PORT 0
port_asks u p h = port_refusal u p ∙ passes _ _ _ h

pub inspection_stops : (u : Mux) (m : List ℕ) (e : Refusal) → number_of e ≡ refusal (of_unit u) → refusal (of_inspection u m) ≡ number_of e
inspection_stops u m e h = inspection_refusal u m ∙ stops e _ _ _ h ∙ sym h

pub inspection_asks : (u : Mux) (m : List ℕ) → 0 ≡ refusal (of_unit u) → refusal (of_inspection u m) ≡ pick (not (eqb (length m) WORDS)) BAD-MEMORY 0
inspection_asks u m h = inspection_refusal u m ∙ passes _ _ _ h

pub sweep_stops : (u : Mux) (m : List ℕ) (n : ℕ) (xs : List ℕ) (e : Refusal) → number_of e ≡ refusal (of_inspection u m) → refusal (of_sweep u m n xs) ≡ number_of e
sweep_stops u m n xs e h = sweep_refusal u m n xs ∙ stops e _ _ _ h ∙ sym h

pub sweep_asks : (u : Mux) (m : List ℕ) (n : ℕ) (xs : List ℕ) → 0 ≡ refusal (of_inspection u m) → refusal (of_sweep u m n xs) ≡ pick (ltb MOST-INSPECTIONS n) TOO-MANY (pick (ltb (length xs) n) SHORT-LIST 0)
sweep_asks u m n xs h = sweep_refusal u m n xs ∙ passes _ _ _ h
