-- The stack of a Mighty Mux (document 02, K6; 000, 2.4.7 and Table 2-3): first in, first out, forty entries, the oldest in place 0.
--   DEPTH, entries     how many it has room for; the entries, oldest first
--   Tidy               40 places, at most 40 entries, and every place past the last entry 0: as it is from setup on
--   entry              what an interrupt puts on it
--   queued, overflowed, pushed   an interrupt that finds room, one that finds none, and which it is
--   shifted, shorter, removed, remain, popped   START
--   oldest, top        DIA
-- Not here: what an EDS-8 has in its place, in Status; a tick and a reset, in Interrupt; that what goes in comes out in order, in fifo.
-- Assumes nothing.
use Rattle.std.specs.Prelude.{◌≡◌, Bool, true, not, ◌&&◌, List, [], ◌∷◌, ◌++◌, ℕ, ◌+◌, ◌-◌, ◌≤◌, eqb, ltb, length, get_or, set, take, drop, replicate}
use Rattle.ground.specs.Choose.{pick, bit}
use Rattle.words.specs.Field.{get, put}
use Rattle.words.specs.Codes.{REAL-TIME, STACK-OVERFLOW, PORT-ADDRESS}
use Rattle.interrupt.specs.declared.Service.{Service}
use Rattle.interrupt.specs.declared.Irq.{Irq}
use Rattle.interrupt.specs.Status.{service_marked}

-- how many entries it has room for
abbrev pub DEPTH : ℕ
DEPTH = 40

-- the entries, the oldest first
abbrev pub entries : Irq → List ℕ
entries i = take i.fill i.stack

-- 40 places, at most 40 entries, and every place past the last entry 0: what setup makes and every call keeps (document 02, K6; fifo, Places)
pub record Tidy (i : Irq) : Type 0 where
  pub places : length i.stack ≡ DEPTH
  pub fits : i.fill ≤ DEPTH
  pub freed : drop i.fill i.stack ≡ replicate (DEPTH - i.fill) 0

-- an entry: bit 2 for input or bit 3 for output, bits 4 to 10 the port's address, all other bits 0 (Table 2-3)
unfoldable pub entry : Service → ℕ → ℕ
entry s address = put PORT-ADDRESS address (service_marked s 0)

-- ---- an interrupt

-- it finds room: the entry in the first free place
abbrev pub queued : ℕ → Irq → Irq
queued e i =
    record { flag = true; status = i.status; lost = i.lost; fill = i.fill + 1; stack = set i.stack i.fill e }

-- it finds none: not queued, and the lost mark
abbrev pub overflowed : Irq → Irq
overflowed i = record { flag = true; status = i.status; lost = true; fill = i.fill; stack = i.stack }

unfoldable pub pushed : ℕ → Irq → Irq
pushed e i = pick (ltb i.fill DEPTH) (queued e i) (overflowed i)

-- ---- START

-- every place takes the next one's word, and the last is 0
abbrev pub shifted : List ℕ → List ℕ
shifted a = drop 1 a ++ (0 ∷ [])

-- the oldest entry removed
abbrev pub shorter : Irq → Irq
shorter i = record { flag = i.flag; status = i.status; lost = i.lost; fill = i.fill - 1; stack = shifted i.stack }

-- if there is one
unfoldable pub removed : Irq → Irq
removed i = pick (eqb i.fill 0) i (shorter i)

-- entries remain
abbrev pub remain : Irq → Bool
remain i = not (eqb i.fill 0)

-- bit 0 cleared; the flag on exactly where entries remain, and the lost mark kept only there
unfoldable pub popped : Irq → Irq
popped i =
    let left = removed i in
    record { flag = remain left; status = 0; lost = left.lost && remain left; fill = left.fill; stack = left.stack }

-- ---- DIA

-- the oldest entry with the lost mark beside it as bit 1; 0 if there is none
unfoldable pub oldest : Irq → ℕ
oldest i = pick (eqb i.fill 0) 0 (put STACK-OVERFLOW (bit i.lost) (get_or i.stack 0 0))

-- what DIA returns: that, and bit 0, which stands beside the stack
unfoldable pub top : Irq → ℕ
top i = put REAL-TIME (get REAL-TIME i.status) (oldest i)
