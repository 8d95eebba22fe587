-- The record of the unit (document 01, the unit and the host's memory; document 02, K5 and K6: the set of special codes and the kind of
-- unit in its setting).
--   no_character, no_port, no_setting, no_mux   all zeros
--   port_at, remade, with_port                a port of the record, the record with other parts, and with another port in its place
--   fresh_port, fresh                        what setup makes
--   block_at, address_at                      where a port's control block lies, and the address that the status word names it by
-- Not here: which records are sound, in Sound; what follows, in laws/Ports.
-- Assumes nothing.
use Rattle.std.specs.Prelude.{Bool, true, false, List, ℕ, ◌+◌, ◌*◌, ◌/◌, ◌%◌, get_or, set, replicate}
use Rattle.interrupt.specs.declared.Kind.TheVariants.{Eds8}
use Rattle.interrupt.specs.declared.Irq.{Irq}
use Rattle.interrupt.specs.Interrupt as Interrupt
use Rattle.unit.specs.declared.mux.Setting.{Setting}
use Rattle.unit.specs.declared.mux.Character.{Character}
use Rattle.unit.specs.declared.mux.Port.{Port}
use Rattle.unit.specs.declared.mux.Mux.{Mux}

-- no character: the fields where none is held
abbrev pub no_character : Character
no_character = record { byte = 0; parity = false; brk = false; overload = false }

-- a port of zeros
abbrev pub no_port : Port
no_port = record { held = false; ch = no_character; empty = false; control = 0; devcontrol = false; devstatus = false }

-- a setting of zeros: an EDS-8's, and its set has a no for each of the 128 codes
abbrev pub no_setting : Setting
no_setting = record { kind = Eds8; block = 0; ports = 0; base = 0; special = replicate 128 false }

-- a port of a fresh unit: nothing held, transmitter empty, control bits 0, Device Control 1, Device Status 0
abbrev pub fresh_port : Port
fresh_port = record { held = false; ch = no_character; empty = true; control = 0; devcontrol = true; devstatus = false }

-- a fresh unit: stopped, clock off, flag and status 0 and no entry, position 0
abbrev pub fresh : Setting → Mux
fresh s =
    record
    { setting = s; pos = 0; runs = false; clock = false; irq = Interrupt.fresh; port = replicate 128 fresh_port }

-- the record of zeros, which a refused setup gives
abbrev pub no_mux : Mux
no_mux =
    record
    { setting = no_setting; pos = 0; runs = false; clock = false; irq = Interrupt.fresh; port = replicate 128 no_port }

-- the port p of the record
unfoldable pub port_at : Mux → ℕ → Port
port_at u p = get_or u.port p no_port

-- the record with its setting kept and all else given: every change of a record is written with it
abbrev pub remade : Mux → ℕ → Bool → Bool → Irq → List Port → Mux
remade u pos runs clock irq port =
    record { setting = u.setting; pos = pos; runs = runs; clock = clock; irq = irq; port = port }

-- the record with q as its port p
abbrev pub with_port : Mux → ℕ → Port → Mux
with_port u p q = remade u u.pos u.runs u.clock u.irq (set u.port p q)

-- the first word of port p's control block
unfoldable pub block_at : Setting → ℕ → ℕ
block_at s p = s.base + p * s.block

-- the address of port p, which bits 4 to 10 of the status word take (document 01, Interrupt)
unfoldable pub address_at : Setting → ℕ → ℕ
address_at s p = (s.base / s.block + p) % 128
