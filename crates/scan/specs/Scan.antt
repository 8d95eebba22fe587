-- One inspection (document 01, of that name): the turn of the port at the scan position.
--   next_pos, moved    the position one on, and the record after a turn
--   looked_at          what an inspection leaves that made a turn
--   service_turn, scanned   the turn of the port at the position that goes to a service, and the turn that it is
--   inspection        the call, with its refusals
-- Not here: what a turn does, in Turn; what follows, in laws/Scan.
-- Assumes nothing.
use Rattle.std.specs.Prelude.{List, ℕ, ◌+◌, ◌%◌, eqb, set}
use Rattle.ground.specs.Choose.{pick}
use Rattle.interrupt.specs.declared.Service.{Service}
use Rattle.unit.specs.declared.mux.Mux.{Mux}
use Rattle.unit.specs.Record.{port_at, remade}
use Rattle.unit.specs.Reply.{nothing, refused, answered, Looked, looked}
use Rattle.unit.specs.Refusals.{refusal, of_inspection}
use Rattle.scan.specs.Turn.{Turned, Turning, served_turn, turn}

-- the position one on: (position + 1) mod P
unfoldable pub next_pos : Mux → ℕ
next_pos u = (u.pos + 1) % u.setting.ports

-- the record after a turn: the port at the position and the interrupt side as the turn left them, the position one on
abbrev pub moved : Mux → Turned → Mux
moved u t = remade u (next_pos u) u.runs u.clock t.irq (set u.port u.pos t.port)

-- what an inspection leaves that made a turn
abbrev pub looked_at : Mux → Turning → Looked
looked_at u t = looked (answered t.turned.answer (moved u t.turned)) t.memory

-- the turn of the port at the position, where it goes to a service
unfoldable pub service_turn : Service → Mux → List ℕ → Looked
service_turn k u m = looked_at u (served_turn k u.setting u.pos (port_at u u.pos) u.irq m)

-- the turn of the port at the position
unfoldable pub scanned : Mux → List ℕ → Looked
scanned u m = looked_at u (turn u.setting u.pos (port_at u u.pos) u.irq m)

-- one inspection: refused by its number, stopped, or a turn
unfoldable pub inspection : Mux → List ℕ → Looked
inspection u m =
    let k = refusal (of_inspection u m) in
    pick (eqb k 0) (pick u.runs (scanned u m) (looked (answered nothing u) m)) (looked (refused k u) m)
