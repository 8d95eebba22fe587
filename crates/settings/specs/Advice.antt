-- What a caretaker is told to type instead of a setting that setup refuses (document 02, K1 and K7; D48, D62).
--   block_mended .. sizes_mended   a block size and a number of ports that a unit can have
--   in_memory                     a base in the memory
--   multiple_below, step_of        the last multiple at or below a word, and the words from one base of a kind of unit to the next
--   last_base                     the last base for so many ports in a word's stretch of 128 blocks
--   base_mended                   the base, lowered as far as it must be
--   with_base, lowered            a setting with another base, and with its own lowered
--   advised                      what to type instead
-- Not here: that setup takes it, and that no higher base at or below the one typed would do, in laws/Advice.
-- Assumes nothing.
use Rattle.std.specs.Prelude.{ℕ, ◌+◌, ◌-◌, ◌*◌, ◌%◌, eqb, ltb}
use Rattle.ground.specs.Choose.{pick}
use Rattle.interrupt.specs.declared.Kind.{Kind}
use Rattle.interrupt.specs.declared.Kind.TheVariants.{Eds8, MightyMux}
use Rattle.unit.specs.declared.mux.Setting.{Setting}
use Rattle.unit.specs.Refusals.{MOST-PORTS, AREA-STEP, too_high}

-- the block size, or 32, as delivered (001, appendix A)
unfoldable pub block_mended : ℕ → ℕ
block_mended b = pick (eqb b 8) 8 (pick (eqb b 16) 16 32)

-- the number of ports, or the nearest that a unit can have
unfoldable pub ports_mended : ℕ → ℕ
ports_mended n = pick (eqb n 0) 1 (pick (ltb MOST-PORTS n) MOST-PORTS n)

-- both
unfoldable pub sizes_mended : Setting → Setting
sizes_mended s = record { kind = s.kind; block = block_mended s.block; ports = ports_mended s.ports; base = s.base; special = s.special }

-- a base, or the last word of the memory where it is above that
unfoldable pub in_memory : ℕ → ℕ
in_memory a = pick (too_high a) 32767 a

-- the last multiple of m at or below a
abbrev pub multiple_below : ℕ → ℕ → ℕ
multiple_below m a = a - a % m

-- the words from one base to the next: 8 blocks; on a Mighty Mux octal 400 (000, section 3.7.7), a multiple of 8 blocks of any size
unfoldable pub step_of : Kind → ℕ → ℕ
step_of Eds8 b = 8 * b
step_of MightyMux b = AREA-STEP

-- the last base for n ports in the stretch of 128 blocks of b words in which word a lies
abbrev pub last_base : ℕ → ℕ → ℕ → ℕ → ℕ
last_base step b n a = multiple_below (128 * b) a + multiple_below step ((128 - n) * b)

-- the last multiple of the step at or below the base, or that last base where it is lower
unfoldable pub base_mended : ℕ → ℕ → ℕ → ℕ → ℕ
base_mended step b n a =
    pick (ltb (multiple_below step (in_memory a)) (last_base step b n (in_memory a)))
    (multiple_below step (in_memory a))
    (last_base step b n (in_memory a))

-- the setting with another base
abbrev pub with_base : Setting → ℕ → Setting
with_base s a = record { kind = s.kind; block = s.block; ports = s.ports; base = a; special = s.special }

-- the setting with its base lowered as far as it must be
abbrev pub lowered : Setting → Setting
lowered s = with_base s (base_mended (step_of s.kind s.block) s.block s.ports s.base)

-- the sizes mended where they must be, and then the base
unfoldable pub advised : Setting → Setting
advised s = lowered (sizes_mended s)
