-- The digests of tests/second/FORMAT.md.
--   taken                              a digest with one more number
--   digest                             of words, places or cells, in their order
--   kind_number, code_taken, port_taken, scalars, kind_scalars, record_digest   of the record
--   window_digest                       of the window on a control block
-- Not here: the line that is read, in Text; folds taken step by step, in laws/Folds.
-- Assumes nothing.
use Rattle.std.specs.Prelude.{Bool, ℕ, ◌+◌, ◌*◌, ◌/◌, ◌%◌, get_or}
use mathlib.Core.List.{List, [], ◌∷◌, foldl}
use Rattle.ground.specs.Choose.{bit}
use Rattle.interrupt.specs.declared.Kind.{Kind}
use Rattle.interrupt.specs.declared.Kind.TheVariants.{Eds8, MightyMux}
use Rattle.interrupt.specs.declared.Irq.{Irq}
use Rattle.unit.specs.declared.mux.Port.{Port}
use Rattle.unit.specs.declared.mux.Mux.{Mux}

-- a digest with one more number
unfoldable pub taken : ℕ → ℕ → ℕ
taken h x = (h * 65599 + x) % 2147483647

-- the digest of words, places or cells, in their order
abbrev pub digest : List ℕ → ℕ
digest xs = foldl taken 1 xs

-- a kind of unit: 0 EDS-8, 1 Mighty Mux
unfoldable pub kind_number : Kind → ℕ
kind_number Eds8 = 0
kind_number MightyMux = 1

-- a digest with the set's word on a code: 1 where it is special
abbrev pub code_taken : ℕ → Bool → ℕ
code_taken h special = taken h (bit special)

-- a digest with the nine numbers of a port, in the order of opcode 25
unfoldable pub port_taken : ℕ → Port → ℕ
port_taken h q =
    foldl taken h
    (bit q.held ∷ q.ch.byte ∷ bit q.ch.parity ∷ bit q.ch.brk ∷ bit q.ch.overload ∷ bit q.empty ∷
    q.control ∷ bit q.devcontrol ∷ bit q.devstatus ∷ [])

-- the first eight numbers of the record, in the order of opcode 24
abbrev pub scalars : Mux → List ℕ
scalars u =
    u.setting.block ∷ u.setting.ports ∷ u.setting.base ∷ u.pos ∷ bit u.runs ∷ bit u.clock ∷ bit u.irq.flag ∷ u.irq.status ∷ []

-- and the three after them, before its stack, its set and its ports
abbrev pub kind_scalars : Kind → Irq → List ℕ
kind_scalars k i = kind_number k ∷ bit i.lost ∷ i.fill ∷ []

-- the digest of the record: 1331 numbers
unfoldable pub record_digest : Mux → ℕ
record_digest u = foldl port_taken (foldl code_taken (foldl taken (foldl taken (digest (scalars u)) (kind_scalars u.setting.kind u.irq)) u.irq.stack) u.setting.special) u.port

-- the digest of the eight words from look on and of the words that IBP and OBP point into
unfoldable pub window_digest : List ℕ → ℕ → ℕ
window_digest m look =
    let w : ℕ → ℕ = λ k. get_or m k 0 in
    digest
    (w look ∷ w (look + 1) ∷ w (look + 2) ∷ w (look + 3) ∷ w (look + 4) ∷ w (look + 5) ∷ w (look + 6) ∷ w (look + 7) ∷
    w (w (look + 4) / 2) ∷ w (w (look + 5) / 2) ∷ [])
