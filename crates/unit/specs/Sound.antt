-- A sound record, part by part: what the table of refusals lets pass, in numbers. That it is exactly that is proved in laws/Sound.
--   IsBlock         a block size
--   SizeFits, BaseFits, AreaFits, Fits   a setting that setup takes, by the parts of its table
--   Sound           a record that row 6 does not refuse
--   AllPorts        a record with its 128 ports
-- Not here: the table of refusals, in Refusals.
-- Assumes nothing.
use Rattle.std.specs.Prelude.{◌≡◌, false, ℕ, ◌+◌, ◌-◌, ◌*◌, ◌/◌, ◌%◌, ◌<◌, ◌≤◌, length}
use Rattle.interrupt.specs.declared.Kind.TheVariants.{MightyMux}
use Rattle.interrupt.specs.Interrupt as Interrupt
use Rattle.unit.specs.declared.mux.Setting.{Setting}
use Rattle.unit.specs.declared.mux.Mux.{Mux}
use Rattle.unit.specs.Refusals.{MOST-PORTS, AREA-STEP}

-- a block is 8, 16 or 32 words
pub data IsBlock (b : ℕ) : Type 0 where
  eight : b ≡ 8 → IsBlock b
  sixteen : b ≡ 16 → IsBlock b
  thirty_two : b ≡ 32 → IsBlock b

-- rows 1 and 2 do not apply: the sizes
pub record SizeFits (s : Setting) : Type 0 where
  pub block : IsBlock s.block
  pub some_port : 0 < s.ports
  pub few_ports : s.ports ≤ MOST-PORTS

-- rows 3, 11 and 12 do not: the base
pub record BaseFits (s : Setting) : Type 0 where
  pub aligned : s.base % (8 * s.block) ≡ 0
  pub low : s.base ≤ 32767
  pub located : s.kind ≡ MightyMux → s.base % AREA-STEP ≡ 0

-- row 4 does not: the area
pub record AreaFits (s : Setting) : Type 0 where
  pub one : s.base / (128 * s.block) ≡ (s.base + s.ports * s.block - 1) / (128 * s.block)

-- a setting that setup takes: no row of its table applies
pub record Fits (s : Setting) : Type 0 where
  pub size : SizeFits s
  pub base : BaseFits s
  pub area : AreaFits s

-- a sound record: setup would take its setting, its position is below P, its interrupt side is sound
pub record Sound (u : Mux) : Type 0 where
  pub setting : Fits u.setting
  pub position : u.pos < u.setting.ports
  pub irq : Interrupt.unsound u.irq ≡ false

-- the record has its 128 ports: every record of the code does
abbrev pub AllPorts : Mux → Type 0
AllPorts u = length u.port ≡ MOST-PORTS
