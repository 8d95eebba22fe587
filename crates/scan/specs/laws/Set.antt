-- The unit's set of special codes at an inspection (document 02, K5): it reaches the two services, and nothing else reads it.
--   turn_by, inspection_by   a turn and an inspection by any services, the rest being today's
--   by_the_services        by today's, with the unit's own set, it is today's inspection
--   service_was             the services before K5: by the rule of 1974, without a set
--   same_services          services that do the same at the port whose turn it is make the same inspection
-- In proofs/laws/Set, since they rest on these: as_before.
-- Not here: the services themselves, in laws/Set of input and of output; a sweep, in laws/Set of sweep.
-- Assumes nothing.
use Rattle.std.specs.Prelude.{◌≡◌, refl, List, ℕ, eqb}
use Rattle.ground.specs.Choose.{pick}
use Rattle.interrupt.specs.declared.Service.{Service}
use Rattle.interrupt.specs.declared.Service.TheVariants.{Input, Output}
use Rattle.interrupt.specs.declared.Irq.{Irq}
use Rattle.words.specs.Pointer.{at_end}
use Rattle.words.specs.Special.{is_special}
use Rattle.unit.specs.declared.mux.Setting.{Setting}
use Rattle.unit.specs.declared.mux.Port.{Port}
use Rattle.unit.specs.declared.mux.Mux.{Mux}
use Rattle.unit.specs.Record.{port_at, block_at}
use Rattle.unit.specs.Reply.{nothing, refused, answered, Serviced, Looked, looked}
use Rattle.unit.specs.Refusals.{refusal, of_inspection}
use Rattle.input.specs.laws.Rules.{input_by}
use Rattle.output.specs.laws.Rules.{output_by}
use Rattle.scan.specs.Turn.{service, Turning, turning, served_as, served_turn, idle_turn, turn}
use Rattle.scan.specs.Scan.{looked_at, scanned, inspection}

-- the services of a port, of either kind
abbrev pub Services : Type 0
Services = Service → List ℕ → ℕ → Port → Serviced

-- a turn that goes to one of them
abbrev served_by : Services → Service → Setting → ℕ → Port → Irq → List ℕ → Turning
served_by serve k s p q i m = let v = serve k m (block_at s p) q in turning (served_as s p q i k v.effect) v.memory

unfoldable pub turn_by : Services → Setting → ℕ → Port → Irq → List ℕ → Turning
turn_by serve s p q i m = pick q.held (served_by serve Input s p q i m) (pick q.empty (served_by serve Output s p q i m) (idle_turn p q i m))

unfoldable pub inspection_by : Services → Mux → List ℕ → Looked
inspection_by serve u m =
    let k = refusal (of_inspection u m) in
    pick (eqb k 0)
    (pick u.runs (looked_at u (turn_by serve u.setting u.pos (port_at u u.pos) u.irq m)) (looked (answered nothing u) m))
    (looked (refused k u) m)

pub by_the_services : (u : Mux) (m : List ℕ) → inspection u m ≡ inspection_by (λ k. service k u.setting.special) u m
unfolding inspection inspection_by scanned turn turn_by served_turn
by_the_services u m = refl

-- the services before K5
unfoldable pub service_was : Services
service_was Input m a q = input_by at_end is_special m a q
service_was Output m a q = output_by at_end is_special m a q

-- services that do the same at the port whose turn it is make the same inspection
pub same_services : (x y : Services) (u : Mux) (m : List ℕ) → ((k : Service) → x k m (block_at u.setting u.pos) (port_at u u.pos) ≡ y k m (block_at u.setting u.pos) (port_at u u.pos)) → inspection_by x u m ≡ inspection_by y u m
unfolding inspection_by turn_by
same_services x y u m h = rw (h Input, h Output)
