-- The numbers a call may refuse with (document 01, the table of that name; document 02, K1, K7 and K10).
--   WORDS .. BAD-LOCATION    the limits and the numbers, a name each; the number between 4 and 6 is retired (K10)
--   size_rows, base_rows, area_rows   rows 1 to 4, 11 and 12, for setup and, of a record's own setting, for row 6
--   Given                    what a call is given: each argument where the call has one
--   refusal                  the table: the first row that applies, and 0 where none does
--   of_setup .. of_sweep       what each kind of call is given
--   number_of, code_of      the code's refusals by number: a refusal, and what a check of the table found
-- Not here: what a refused call leaves, in Reply; what each number says, in laws/Refusals.
-- Assumes nothing.
use Rattle.std.specs.Prelude.{Bool, false, not, ◌||◌, List, [], ◌∷◌, ◌++◌, ℕ, ◌+◌, ◌-◌, ◌*◌, ◌/◌, ◌%◌, eqb, leb, ltb, length, Result, Ok, Err}
use Rattle.std.proofs.Math.Option.{Option, some, none}
use Rattle.ground.specs.Choose.{asked, Row, row, first_of}
use Rattle.interrupt.specs.declared.Kind.{Kind}
use Rattle.interrupt.specs.declared.Kind.TheVariants.{Eds8, MightyMux}
use Rattle.interrupt.specs.Interrupt as Interrupt
use Rattle.unit.specs.declared.mux.Setting.{Setting}
use Rattle.unit.specs.declared.mux.Mux.{Mux}
use Rattle.unit.specs.declared.refusal.Refusal.{Refusal}
use Rattle.unit.specs.declared.refusal.Refusal.TheVariants.{BadBlock, BadPorts, Misaligned, Crosses, Unsound, BadMemory, NoPort, TooMany, ShortList, TooHigh, BadLocation}

-- ---- the limits and the numbers

-- words of the host's memory
abbrev pub WORDS : ℕ
WORDS = 32768

-- ports of a unit, at most
abbrev pub MOST-PORTS : ℕ
MOST-PORTS = 128

-- inspections of a sweep, at most
abbrev pub MOST-INSPECTIONS : ℕ
MOST-INSPECTIONS = 4096

-- a Mighty Mux's control area starts at a multiple of so many words (000, section 3.7.7)
abbrev pub AREA-STEP : ℕ
AREA-STEP = 0o400

abbrev pub BAD-BLOCK : ℕ
BAD-BLOCK = 1

abbrev pub BAD-PORTS : ℕ
BAD-PORTS = 2

abbrev pub MISALIGNED : ℕ
MISALIGNED = 3

abbrev pub CROSSES : ℕ
CROSSES = 4

abbrev pub UNSOUND : ℕ
UNSOUND = 6

abbrev pub BAD-MEMORY : ℕ
BAD-MEMORY = 7

abbrev pub NO-PORT : ℕ
NO-PORT = 8

abbrev pub TOO-MANY : ℕ
TOO-MANY = 9

abbrev pub SHORT-LIST : ℕ
SHORT-LIST = 10

abbrev pub TOO-HIGH : ℕ
TOO-HIGH = 11

abbrev pub BAD-LOCATION : ℕ
BAD-LOCATION = 12

-- ---- what each row asks

-- b is not 8, 16 or 32
unfoldable pub bad_block : ℕ → Bool
bad_block b = not (eqb b 8 || (eqb b 16 || eqb b 32))

-- P is 0 or above 128
unfoldable pub bad_ports : ℕ → Bool
bad_ports n = eqb n 0 || ltb MOST-PORTS n

-- base is not a multiple of 8b
unfoldable pub misaligned : ℕ → ℕ → Bool
misaligned b a = not (eqb (a % (8 * b)) 0)

-- base is above 32767
unfoldable pub too_high : ℕ → Bool
too_high a = ltb 32767 a

-- of a Mighty Mux: base is not a multiple of octal 400; an EDS-8 is not asked
unfoldable pub bad_location : Kind → ℕ → Bool
bad_location Eds8 a = false
bad_location MightyMux a = not (eqb (a % AREA-STEP) 0)

-- floor(base / 128b) differs from floor((base + P·b − 1) / 128b)
unfoldable pub crosses : ℕ → ℕ → ℕ → Bool
crosses b n a = not (eqb (a / (128 * b)) ((a + n * b - 1) / (128 * b)))

-- ---- the table

-- rows 1 and 2: the sizes
unfoldable pub size_rows : Setting → List Row
size_rows s = row BAD-BLOCK (bad_block s.block) ∷ row BAD-PORTS (bad_ports s.ports) ∷ []

-- rows 3, 11 and 12: the base
unfoldable pub base_rows : Setting → List Row
base_rows s =
    row MISALIGNED (misaligned s.block s.base)
    ∷ row TOO-HIGH (too_high s.base)
    ∷ row BAD-LOCATION (bad_location s.kind s.base)
    ∷ []

-- row 4: the area
unfoldable pub area_rows : Setting → List Row
area_rows s = row CROSSES (crosses s.block s.ports s.base) ∷ []

-- rows 1, 2, 3, 11, 12 and 4
unfoldable pub setting_rows : Setting → List Row
setting_rows s = size_rows s ++ (base_rows s ++ area_rows s)

-- a record is unsound: setup would refuse its setting, or its position is P or more, or its interrupt side is none
unfoldable pub unsound : Mux → Bool
unsound u =
    not (eqb (first_of (setting_rows u.setting)) 0)
    || (leb u.setting.ports u.pos || Interrupt.unsound u.irq)

-- what a call is given, each argument where the call has one: a setting, a record, the memory, a port number, how many inspections, the list
pub record Given : Type 0 where
  pub setting : Option Setting
  pub unit : Option Mux
  pub memory : Option (List ℕ)
  pub port : Option ℕ
  pub inspections : Option ℕ
  pub list : Option (List ℕ)

-- setup's rows, of a setting that may be absent
unfoldable pub rows_of : Option Setting → List Row
rows_of none = []
rows_of (some s) = setting_rows s

-- rows 6 to 10
unfoldable pub call_rows : Given → List Row
call_rows g =
    row UNSOUND (asked g.unit (λ u. unsound u))
    ∷ row BAD-MEMORY (asked g.memory (λ m. not (eqb (length m) WORDS)))
    ∷ row NO-PORT (asked g.unit (λ u. asked g.port (λ p. leb u.setting.ports p)))
    ∷ row TOO-MANY (asked g.inspections (λ n. ltb MOST-INSPECTIONS n))
    ∷ row SHORT-LIST (asked g.inspections (λ n. asked g.list (λ xs. ltb (length xs) n)))
    ∷ []

-- the table: the rows of what the call is given, in order
unfoldable pub table_of : Given → List Row
table_of g = rows_of g.setting ++ call_rows g

-- the number: that of the first row that applies
unfoldable pub refusal : Given → ℕ
refusal g = first_of (table_of g)

-- ---- what each kind of call is given

-- setup
abbrev pub of_setup : Setting → Given
of_setup s =
    record { setting = some s; unit = none; memory = none; port = none; inspections = none; list = none }

-- a call on the record alone: the processor's
abbrev pub of_unit : Mux → Given
of_unit u = record { setting = none; unit = some u; memory = none; port = none; inspections = none; list = none }

-- a call on a port: the lines'
abbrev pub of_port : Mux → ℕ → Given
of_port u p = record { setting = none; unit = some u; memory = none; port = some p; inspections = none; list = none }

-- an inspection
abbrev pub of_inspection : Mux → List ℕ → Given
of_inspection u m =
    record { setting = none; unit = some u; memory = some m; port = none; inspections = none; list = none }

-- a sweep
abbrev pub of_sweep : Mux → List ℕ → ℕ → List ℕ → Given
of_sweep u m n xs =
    record { setting = none; unit = some u; memory = some m; port = none; inspections = some n; list = some xs }

-- ---- the code's refusals

abbrev pub number_of : Refusal → ℕ
number_of BadBlock = BAD-BLOCK
number_of BadPorts = BAD-PORTS
number_of Misaligned = MISALIGNED
number_of Crosses = CROSSES
number_of Unsound = UNSOUND
number_of BadMemory = BAD-MEMORY
number_of NoPort = NO-PORT
number_of TooMany = TOO-MANY
number_of ShortList = SHORT-LIST
number_of TooHigh = TOO-HIGH
number_of BadLocation = BAD-LOCATION

-- what a check found: the number of the refusal, or 0
abbrev pub code_of : Result (Unit {0}) Refusal → ℕ
code_of (Ok found) = 0
code_of (Err e) = number_of e
