-- The interrupt side of a unit of either kind (document 01, Interrupt, and what the processor does; document 02, K6; 001, 4.7 and 5; 000, 2.4.7).
--   fresh, cleared          neither flag nor status nor entries: of a new unit, and after a reset
--   unsound                 its own part of refusal 6
--   merged, raised          an interrupt raised by an input or an output that is done
--   quieted, started        START
--   ticked, shown           a tick with the clock on, DIA
-- Not here: the status word of an EDS-8, in Status; the stack of a Mighty Mux, in Stack; when an interrupt is raised and by whom, in input, output and
-- scan; what follows, in laws/.
-- Assumes nothing.
use Rattle.std.specs.Prelude.{Bool, true, false, ℕ, ltb, replicate}
use Rattle.words.specs.Field.{put}
use Rattle.words.specs.Codes.{REAL-TIME}
use Rattle.interrupt.specs.declared.Kind.{Kind}
use Rattle.interrupt.specs.declared.Kind.TheVariants.{Eds8, MightyMux}
use Rattle.interrupt.specs.declared.Service.{Service}
use Rattle.interrupt.specs.declared.Irq.{Irq}
use Rattle.interrupt.specs.Status.{status_after}
use Rattle.interrupt.specs.Stack.{DEPTH, entry, pushed, popped, top}

-- a new unit's, of either kind: flag and status 0, nothing lost, no entry
abbrev pub fresh : Irq
fresh = record { flag = false; status = 0; lost = false; fill = 0; stack = replicate DEPTH 0 }

-- after a reset: the same
unfoldable pub cleared : Irq → Irq
cleared i = fresh

-- what no unit can have: more than 40 entries. Every flag goes with every word
unfoldable pub unsound : Irq → Bool
unsound i = ltb DEPTH i.fill

-- an interrupt of an EDS-8: the flag on, and the status word
unfoldable pub merged : Service → ℕ → Irq → Irq
merged s address i =
    record { flag = true; status = status_after s address i.status; lost = i.lost; fill = i.fill; stack = i.stack }

-- an interrupt: the status word of an EDS-8 takes it up, a Mighty Mux stacks it
unfoldable pub raised : Kind → Service → ℕ → Irq → Irq
raised Eds8 s address i = merged s address i
raised MightyMux s address i = pushed (entry s address) i

-- START of an EDS-8: flag and status 0
abbrev pub quieted : Irq → Irq
quieted i = record { flag = false; status = 0; lost = i.lost; fill = i.fill; stack = i.stack }

-- START: a Mighty Mux removes its oldest entry
unfoldable pub started : Kind → Irq → Irq
started Eds8 i = quieted i
started MightyMux i = popped i

-- a tick with the clock on: status bit 0 and the flag
unfoldable pub ticked : Irq → Irq
ticked i = record { flag = true; status = put REAL-TIME 1 i.status; lost = i.lost; fill = i.fill; stack = i.stack }

-- what DIA returns: the status word of an EDS-8, the oldest entry of a Mighty Mux
unfoldable pub shown : Kind → Irq → ℕ
shown Eds8 i = i.status
shown MightyMux i = top i
