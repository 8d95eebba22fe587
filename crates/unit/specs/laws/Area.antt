-- Where the area ends, and what taking out its check changed: nothing (document 02, K10).
--   five, rows_with_five       row 5, and setup's table with it, as they were, without K7's row: for comparisons alone, these and K1's
--   order_was                the order of that table's numbers
--   five_iff                 that row applied exactly where the area ends past word 32768
--   Rests, rests             what this rests on, computed: without row 11, 4 or 1 an area could end past word 32768; and that one may end there
-- In proofs/laws/Area, since they rest on these: rows_end, taken_end, five_idle, five_never, setup_unchanged, sound_unchanged, calls_unchanged.
-- Not here: the same in numbers, in Sound; that no call is refused with 5, in Refusals.
-- Assumes nothing.
use Rattle.std.specs.Prelude.{◌≡◌, refl, true, List, [], ◌∷◌, ◌++◌, map, ◌↔◌, ℕ, ◌+◌, ◌*◌, ◌<◌, eqb, ltb}
use Rattle.std.proofs.Common.{ltb-true, lt-ltb}
use Rattle.ground.specs.Choose.{pick, asked, Row, row, first_of}
use Rattle.unit.specs.declared.mux.Setting.{Setting}
use Rattle.unit.specs.Record.{no_setting}
use Rattle.unit.specs.Refusals.{BAD-BLOCK, CROSSES, TOO-HIGH, bad_block, bad_ports, misaligned, too_high, bad_location, crosses, size_rows, base_rows, area_rows, setting_rows, rows_of, call_rows, table_of, refusal, of_setup}
use Rattle.unit.specs.laws.Location.{rows_before}

-- ---- the table as it was

-- row 5: base + P·b is above 32768
unfoldable pub five : Setting → Row
five s = row 5 (ltb 32768 (s.base + s.ports * s.block))

-- rows 1, 2, 3, 11, 4 and 5
unfoldable pub rows_with_five : Setting → List Row
rows_with_five s = rows_before s ++ (five s ∷ [])

-- the numbers in the order in which they were asked
pub order_was : (s : Setting) → map (λ (r : Row). r.number) (rows_with_five s) ≡ 1 ∷ 2 ∷ 3 ∷ 11 ∷ 4 ∷ 5 ∷ []
unfolding rows_with_five five rows_before size_rows area_rows
order_was s = refl

-- the row applied exactly where the area ends past word 32768
pub five_iff : (s : Setting) → ((five s).applies ≡ true) ↔ (32768 < s.base + s.ports * s.block)
unfolding five
five_iff s = (λ e. ltb-true 32768 _ e, λ h. lt-ltb 32768 _ h)

-- ---- what it rests on

abbrev of : ℕ → ℕ → ℕ → Setting
of b n a = record { kind = no_setting.kind; block = b; ports = n; base = a; special = no_setting.special }

-- a table without the rows of one number
abbrev without : ℕ → List Row → List Row
without k [] = []
without k (r ∷ rs) = pick (eqb r.number k) (without k rs) (r ∷ without k rs)

-- a setting that every row but those of one number lets pass, and where its area ends
abbrev Past : ℕ → Setting → ℕ → Type 0
Past k s end = (first_of (without k (setting_rows s)) ≡ 0) × (s.base + s.ports * s.block ≡ end)

-- a setting that setup takes, with an area that ends at word 32768
abbrev Reaches : Setting → Type 0
Reaches s = (refusal (of_setup s) ≡ 0) × (s.base + s.ports * s.block ≡ 32768)

pub record Rests : Type 0 where
  -- on K1's row: base 32768, b 8, P 1 passes 1 to 4, and ends past word 32768
  pub without_11 : Past TOO-HIGH (of 8 1 32768) 32776
  -- on row 4: so do nine blocks from the last base
  pub without_4 : Past CROSSES (of 8 9 32704) 32776
  -- on row 1: and blocks of 24, as 32768 is no multiple of 128 times 24
  pub without_1 : Past BAD-BLOCK (of 24 128 30720) 33792
  -- and no smaller end would do, in any block size
  pub last_8 : Reaches (of 8 8 32704)
  pub last_16 : Reaches (of 16 8 32640)
  pub last_32 : Reaches (of 32 8 32512)

pub rests : Rests
unfolding pick asked first_of refusal table_of rows_of call_rows setting_rows size_rows base_rows area_rows bad_block bad_ports misaligned too_high bad_location crosses
rests =
    record {
      without_11 = (refl, refl);
      without_4 = (refl, refl);
      without_1 = (refl, refl);
      last_8 = (refl, refl);
      last_16 = (refl, refl);
      last_32 = (refl, refl);
    }
