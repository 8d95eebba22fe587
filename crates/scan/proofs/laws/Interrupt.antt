-- What an inspection does to the interrupt side: it answers "raised" exactly where it has raised one, of its own kind and port.
--   Interrupts, inspection_irq   an inspection that raised an interrupt, and one that left the interrupt side as it was
-- Here, and not in specs/laws/Interrupt, is what rests on other laws of specs/: an edit of a definition counts as refused where nothing in specs/ rests on the
-- law that it breaks.
-- Assumes nothing.
use Rattle.std.specs.Prelude.{◌≡◌, refl, Bool, true, false, List, ℕ}
use Rattle.ground.specs.Choose.{pick}
use Rattle.interrupt.specs.declared.Service.{Service}
use Rattle.interrupt.specs.declared.Service.TheVariants.{Input, Output}
use Rattle.unit.specs.declared.mux.Mux.{Mux}
use Rattle.unit.specs.Record.{port_at, block_at}
use Rattle.scan.specs.Turn.{service, irq_after, served_turn, idle_turn}
use Rattle.scan.specs.Scan.{service_turn, scanned, inspection}
use Rattle.scan.specs.laws.Scan.{Kind, takes_turn, stands_still, scanned_input, scanned_output, scanned_idle}
use Rattle.scan.proofs.laws.Scan.{kind}
use Rattle.scan.specs.laws.Interrupt.{Interrupts, raises, silent}

-- a turn that goes to a service
service_irq : (k : Service) (u : Mux) (m : List ℕ) → Interrupts u (service_turn k u m)
unfolding service_turn served_turn irq_after pick
service_irq k u m = by _ refl
  where
    by : (r : Bool) → (service k u.setting.special m (block_at u.setting u.pos) (port_at u u.pos)).effect.raised ≡ r → Interrupts u (service_turn k u m)
    by true e = raises k refl refl e (rw e)
    by false e = silent e (rw e)

-- any turn
scan_irq : (u : Mux) (m : List ℕ) → Interrupts u (scanned u m)
unfolding idle_turn
scan_irq u m = by (port_at u u.pos).held (port_at u u.pos).empty refl refl
  where
    by : (h e : Bool) → (port_at u u.pos).held ≡ h → (port_at u u.pos).empty ≡ e → Interrupts u (scanned u m)
    by true e h f = rw (scanned_input u m h) (service_irq Input u m)
    by false true h f = rw (scanned_output u m h f) (service_irq Output u m)
    by false false h f = rw (scanned_idle u m h f) (silent refl refl)

-- any inspection, refused or of a stopped unit as well
pub inspection_irq : (u : Mux) (m : List ℕ) → Interrupts u (inspection u m)
inspection_irq u m = by (kind u m)
  where
    by : Kind u m → Interrupts u (inspection u m)
    by (takes_turn e r t) = rw t (scan_irq u m)
    by (stands_still k e t) = rw t (silent refl refl)
