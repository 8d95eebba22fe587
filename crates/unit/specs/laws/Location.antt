-- The bases of a Mighty Mux, and what asking them changed (document 02, K7).
--   OnlyElsewhere            a Mighty Mux whose base is no multiple of octal 400 and has no other fault that is asked before
--   aligned_400, mighty_bases   its bases are all of these in the memory, whatever the block size
--   rows_before               setup's table as it was: for comparisons alone, these and those of K1 and K10
-- In proofs/laws/Location, since they rest on these: location_iff, taken_located, sound_located, elsewhere_refused, never_32, location_same,
-- location_changed, eds8_number, eds8_setup, eds8_sound, eds8_calls, kind_asked, kind_32.
-- Not here: the table itself, in specs/Refusals; the law for every row, in Refusals; setup, row 6 and the other calls by any rows, in Tables.
-- Assumes nothing.
use Rattle.std.specs.Prelude.{◌≡◌, List, [], ◌∷◌, ◌++◌, ◌↔◌, ℕ, ◌*◌, ◌%◌, ◌≤◌}
use Rattle.std.proofs.Common.{arith}
use Rattle.ground.specs.Choose.{Row, row}
use Rattle.interrupt.specs.declared.Kind.TheVariants.{MightyMux}
use Rattle.unit.specs.declared.mux.Setting.{Setting}
use Rattle.unit.specs.Refusals.{MISALIGNED, TOO-HIGH, misaligned, too_high, size_rows, area_rows}
use Rattle.unit.specs.Sound.{IsBlock, SizeFits, BaseFits}
use Rattle.unit.specs.laws.Sound.{by_block}

-- ---- the number, in numbers

-- a Mighty Mux of which rows 1, 2, 3 and 11 do not apply, and whose base is no multiple of 256, which is octal 400
pub record OnlyElsewhere (s : Setting) : Type 0 where
  pub size : SizeFits s
  pub aligned : s.base % (8 * s.block) ≡ 0
  pub low : s.base ≤ 32767
  pub mighty : s.kind ≡ MightyMux
  pub elsewhere : s.base % 256 ≡ 0 → ⊥

-- the rows before it: 1, 2, 3 and 11
abbrev pub earlier : Setting → List Row
earlier s = size_rows s ++ (row MISALIGNED (misaligned s.block s.base) ∷ row TOO-HIGH (too_high s.base) ∷ [])

-- a multiple of octal 400 is one of 8b, whatever the block size
pub aligned_400 : (a b : ℕ) → IsBlock b → a % 256 ≡ 0 → a % (8 * b) ≡ 0
aligned_400 a = by_block (λ b. a % 256 ≡ 0 → a % (8 * b) ≡ 0) (λ e. omega arith) (λ e. omega arith) (λ e. omega arith)

-- so its bases are all of these in the memory
pub mighty_bases : (s : Setting) → SizeFits s → s.kind ≡ MightyMux → BaseFits s ↔ ((s.base % 256 ≡ 0) × (s.base ≤ 32767))
mighty_bases s z k =
    (λ f. (f.located k, f.low), λ h. record { aligned = aligned_400 s.base s.block z.block h.0; low = h.1; located = λ _. h.0 })

-- ---- setup as it was

-- rows 1, 2, 3, 11 and 4; their tests are today's
unfoldable pub rows_before : Setting → List Row
rows_before s = earlier s ++ area_rows s
