-- Pokes: one field of the record (order 24), or one field of a port (order 25), by its number, a place of the record's stack (order 16), or the word
-- of its set on a code (order 29) (tests/second/FORMAT.md).
--   level                                  a number poked into a bool
--   kind_of                                 a kind of unit by its number
--   poked_setting, poked_irq, poked          order 24
--   poked_place                             order 16
--   poked_character, poked_field, poked_port  order 25
--   poked_special                           order 29
-- Not here: the order in which a digest takes the same fields, in Digest.
-- Assumes nothing.
use Rattle.std.specs.Prelude.{Bool, not, ℕ, ◌%◌, eqb, set}
use Rattle.ground.specs.Choose.{pick}
use Rattle.interrupt.specs.declared.Kind.{Kind}
use Rattle.interrupt.specs.declared.Kind.TheVariants.{Eds8, MightyMux}
use Rattle.interrupt.specs.declared.Irq.{Irq}
use Rattle.unit.specs.declared.mux.Setting.{Setting}
use Rattle.unit.specs.declared.mux.Character.{Character}
use Rattle.unit.specs.declared.mux.Port.{Port}
use Rattle.unit.specs.declared.mux.Mux.{Mux}
use Rattle.unit.specs.Record.{port_at, remade, with_port}
use Rattle.words.specs.Special.{with_code}

-- a number poked into a bool: 0 is false
abbrev pub level : ℕ → Bool
level v = not (eqb v 0)

-- a kind of unit by its number: 0 EDS-8, any other Mighty Mux
unfoldable pub kind_of : ℕ → Kind
kind_of v = pick (eqb v 0) Eds8 MightyMux

-- order 24, the setting: 0 block, 1 ports, 2 base, 8 kind
unfoldable pub poked_setting : Setting → ℕ → ℕ → Setting
poked_setting s field v =
    record {
      kind = pick (eqb field 8) (kind_of v) s.kind;
      block = pick (eqb field 0) v s.block;
      ports = pick (eqb field 1) v s.ports;
      base = pick (eqb field 2) v s.base;
      special = s.special;
    }

-- order 24, the interrupt side: 6 interrupt flag, 7 status, 9 lost mark, 10 number of entries
unfoldable pub poked_irq : Irq → ℕ → ℕ → Irq
poked_irq i field v =
    record {
      flag = pick (eqb field 6) (level v) i.flag;
      status = pick (eqb field 7) (v % 65536) i.status;
      lost = pick (eqb field 9) (level v) i.lost;
      fill = pick (eqb field 10) v i.fill;
      stack = i.stack;
    }

-- order 24: 3 pos, 4 runs, 5 clock
unfoldable pub poked : Mux → ℕ → ℕ → Mux
poked u field v =
    record {
      setting = poked_setting u.setting field v;
      pos = pick (eqb field 3) v u.pos;
      runs = pick (eqb field 4) (level v) u.runs;
      clock = pick (eqb field 5) (level v) u.clock;
      irq = poked_irq u.irq field v;
      port = u.port;
    }

-- order 16: a place of the stack, one of the 40, so a number above them counts on from 0 again
unfoldable pub poked_place : Mux → ℕ → ℕ → Mux
poked_place u place word =
    let i = u.irq in
    remade u u.pos u.runs u.clock
    (record { flag = i.flag; status = i.status; lost = i.lost; fill = i.fill; stack = set i.stack (place % 40) (word % 65536) })
    u.port

-- order 25, the held character: 1 its byte, 2 its parity mark, 3 its break mark, 4 its overload mark
unfoldable pub poked_character : Character → ℕ → ℕ → Character
poked_character c field v =
    record {
      byte = pick (eqb field 1) (v % 256) c.byte;
      parity = pick (eqb field 2) (level v) c.parity;
      brk = pick (eqb field 3) (level v) c.brk;
      overload = pick (eqb field 4) (level v) c.overload;
    }

-- order 25: 0 held, 5 transmitter empty, 6 control bits, 7 Device Control, 8 Device Status line
unfoldable pub poked_field : Port → ℕ → ℕ → Port
poked_field q field v =
    record {
      held = pick (eqb field 0) (level v) q.held;
      ch = poked_character q.ch field v;
      empty = pick (eqb field 5) (level v) q.empty;
      control = pick (eqb field 6) (v % 256) q.control;
      devcontrol = pick (eqb field 7) (level v) q.devcontrol;
      devstatus = pick (eqb field 8) (level v) q.devstatus;
    }

-- order 25, at a port: one of the 128, so a number above them counts on from 0 again
unfoldable pub poked_port : Mux → ℕ → ℕ → ℕ → Mux
poked_port u p field v = with_port u (p % 128) (poked_field (port_at u (p % 128)) field v)

-- order 29: the set with the word v on the code, all else as it was
unfoldable pub poked_special : Mux → ℕ → ℕ → Mux
poked_special u code v =
    let s = u.setting in
    record {
      setting = record { kind = s.kind; block = s.block; ports = s.ports; base = s.base; special = with_code s.special (code % 256) (level v) };
      pos = u.pos;
      runs = u.runs;
      clock = u.clock;
      irq = u.irq;
      port = u.port;
    }
