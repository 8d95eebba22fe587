-- Laws of the table of refusals (document 01, of that name).
--   given                        each number exactly when its row applies and none before it, of every kind of call
--   never_five                   no call is refused with 5 (document 02, K10)
--   setup_order, call_order      the numbers in the order in which they are asked
--   setup_refusal, by_size ..    setup's number, part by part
--   by_setting, setting_unsound, setting_passed   row 6 has no list of its own: a record is unsound whose setting setup would refuse, whatever the row; of another the rest is asked
--   unsound_first                every call on an unsound record is refused with 6, before any other number
--   inspection_refusal, sweep_refusal   a call's number is that of the smaller call, and then its own rows
-- In proofs/laws/Refusals, since they rest on these: setting_unsound, setting_passed.
-- Not here: the table itself, in specs/Refusals; what refusal 0 says in numbers, in Sound.
-- Assumes nothing.
use Rattle.std.specs.Prelude.{◌≡◌, refl, Bool, true, false, not, ◌||◌, List, [], ◌∷◌, ◌++◌, map, ◌↔◌, ℕ, eqb, leb, ltb, length}
use Rattle.std.proofs.Common.{ap, ◌∙◌}
use Rattle.std.proofs.Math.Option.{Option, some, none}
use Rattle.ground.specs.Choose.{pick, asked, Row, first_of}
use Rattle.ground.specs.laws.Rows.{Gives, first_gives, absent, never, first_then, first_stops}
use Rattle.interrupt.specs.Interrupt as Interrupt
use Rattle.unit.specs.declared.mux.Setting.{Setting}
use Rattle.unit.specs.declared.mux.Mux.{Mux}
use Rattle.unit.specs.Refusals.{WORDS, MOST-INSPECTIONS, UNSOUND, BAD-MEMORY, TOO-MANY, SHORT-LIST, size_rows, base_rows, area_rows, setting_rows, unsound, Given, rows_of, call_rows, table_of, refusal, of_setup, of_unit, of_inspection, of_sweep}

-- the table gives k exactly where the call is refused with k: every kind of call, and 0 for none
pub given : (g : Given) (k : ℕ) → (refusal g ≡ k) ↔ Gives (table_of g) k
unfolding refusal
given g k = first_gives (table_of g) k

-- ---- the numbers

-- none is 5, whatever a call is given
pub never_five : (g : Given) → refusal g ≡ 5 → ⊥
unfolding refusal table_of rows_of setting_rows size_rows base_rows area_rows call_rows
never_five g = never (table_of g) 5 (nowhere g.setting)
  where
    nowhere : (s : Option Setting) → absent 5 (rows_of s ++ call_rows g) ≡ true
    nowhere none = refl
    nowhere (some s) = refl

-- their order: setup's
pub setup_order : (s : Setting) → map (λ (r : Row). r.number) (setting_rows s) ≡ 1 ∷ 2 ∷ 3 ∷ 11 ∷ 12 ∷ 4 ∷ []
unfolding setting_rows size_rows base_rows area_rows
setup_order s = refl

-- and every other call's
pub call_order : (g : Given) → map (λ (r : Row). r.number) (call_rows g) ≡ 6 ∷ 7 ∷ 8 ∷ 9 ∷ 10 ∷ []
unfolding call_rows
call_order g = refl

-- ---- setup's number, part by part

-- setup is given its own rows alone
pub setup_refusal : (s : Setting) → refusal (of_setup s) ≡ first_of (setting_rows s)
unfolding refusal table_of rows_of call_rows setting_rows size_rows base_rows area_rows first_of asked pick
setup_refusal s = refl

pub by_size : (s : Setting) → (first_of (size_rows s) ≡ 0 → ⊥) → refusal (of_setup s) ≡ first_of (size_rows s)
unfolding setting_rows
by_size s h = setup_refusal s ∙ first_stops (size_rows s) (base_rows s ++ area_rows s) h

-- the sizes passed
after_size : (s : Setting) → first_of (size_rows s) ≡ 0 → refusal (of_setup s) ≡ first_of (base_rows s ++ area_rows s)
unfolding setting_rows size_rows
after_size s e = setup_refusal s ∙ first_then (size_rows s) (base_rows s ++ area_rows s) refl e

pub by_base : (s : Setting) → first_of (size_rows s) ≡ 0 → (first_of (base_rows s) ≡ 0 → ⊥) → refusal (of_setup s) ≡ first_of (base_rows s)
by_base s e h = after_size s e ∙ first_stops (base_rows s) (area_rows s) h

pub by_area : (s : Setting) → first_of (size_rows s) ≡ 0 → first_of (base_rows s) ≡ 0 → refusal (of_setup s) ≡ first_of (area_rows s)
unfolding base_rows
by_area s e f = after_size s e ∙ first_then (base_rows s) (area_rows s) refl f

-- ---- setup's number and row 6

-- the test of row 6, whose first part is whether setup's table gives 0
pub by_setting : (u : Mux) (t : Bool) → eqb (first_of (setting_rows u.setting)) 0 ≡ t → unsound u ≡ (not t || (leb u.setting.ports u.pos || Interrupt.unsound u.irq))
unfolding unsound
by_setting u t e = ap (λ b. not b || (leb u.setting.ports u.pos || Interrupt.unsound u.irq)) e

-- every call on an unsound record is refused with 6, whatever else it is given
pub unsound_first : (g : Given) (u : Mux) → g.setting ≡ none → g.unit ≡ some u → unsound u ≡ true → refusal g ≡ UNSOUND
unfolding refusal table_of rows_of call_rows first_of asked pick
unsound_first g u e f h = rw (e, f, h)

-- ---- a call's number is that of the smaller call, and then its own rows

-- an inspection's number is its record's, and then row 7
pub inspection_refusal : (u : Mux) (m : List ℕ) → refusal (of_inspection u m) ≡ pick (eqb (refusal (of_unit u)) 0) (pick (not (eqb (length m) WORDS)) BAD-MEMORY 0) (refusal (of_unit u))
unfolding refusal table_of rows_of call_rows first_of asked pick
inspection_refusal u m = cases (unsound u) (not (eqb (length m) WORDS))
  where
    cases : (s t : Bool) → ◌≡◌ {A = ℕ} (pick s 6 (pick t 7 0)) (pick (eqb (pick s 6 0) 0) (pick t 7 0) (pick s 6 0))
    cases true t = refl
    cases false t = refl

-- a sweep's number is its inspections', and then rows 9 and 10
pub sweep_refusal : (u : Mux) (m : List ℕ) (n : ℕ) (xs : List ℕ) → refusal (of_sweep u m n xs) ≡ pick (eqb (refusal (of_inspection u m)) 0) (pick (ltb MOST-INSPECTIONS n) TOO-MANY (pick (ltb (length xs) n) SHORT-LIST 0)) (refusal (of_inspection u m))
unfolding refusal table_of rows_of call_rows first_of asked pick
sweep_refusal u m n xs =
    cases (unsound u) (not (eqb (length m) WORDS)) (pick (ltb MOST-INSPECTIONS n) TOO-MANY (pick (ltb (length xs) n) SHORT-LIST 0))
  where
    cases : (s t : Bool) (k : ℕ) → ◌≡◌ {A = ℕ} (pick s 6 (pick t 7 k)) (pick (eqb (pick s 6 (pick t 7 0)) 0) k (pick s 6 (pick t 7 0)))
    cases true t k = refl
    cases false true k = refl
    cases false false k = refl
