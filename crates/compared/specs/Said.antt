-- The numbers that a driver prints for an order (tests/second/FORMAT.md, the table of orders, its last column).
--   saying                   numbers to print after those already gathered
--   answer_said, beside_of     what orders 1, 10, 11, 13 and 14 have between the code and the record
--   told_of                   the line up to the record
--   looked_of                 the line after the record
--   unit_said                 the line of orders 1 to 14
--   speed_said                the line of order 26
--   whole_said                the line of orders 30 and 31
--   written_said              the line of order 32
--   frame_said, read_said, arrived_said   the lines of orders 33 and 35, and what they begin with
--   form_said                 the line of order 34
-- Not here: the bytes of a line, in Printed of the crate driver.
-- Assumes nothing.
use mathlib.Core.List.{List, [], ◌∷◌, ◌++◌, foldl}
use Rattle.std.specs.Prelude.{ℕ, ◌%◌, eqb, take}
use Rattle.ground.specs.Choose.{pick, bit}
use Rattle.words.specs.Speed.{speed_of}
use Rattle.framing.specs.Read.{Frame}
use Rattle.framing.specs.Write.{Wrote}
use Rattle.framing.specs.Number.{form_number}
use Rattle.framing.specs.Eds8.{form_of}
use Rattle.unit.specs.declared.mux.Setting.{Setting}
use Rattle.unit.specs.declared.mux.Mux.{Mux}
use Rattle.unit.specs.Reply.{Answer, Reply, turn_number}
use Rattle.unit.specs.Setup.{setup}
use Rattle.driver.specs.declared.say.Said.{Said}
use Rattle.driver.specs.Digest.{digest, record_digest, window_digest}
use Rattle.driver.specs.Printed.{and}
use Rattle.compared.specs.Orders.{nth}

-- numbers to print after those already gathered
abbrev pub saying : Said → List ℕ → Said
saying s xs = foldl and s xs

-- order 13: turn port sent byte raised
abbrev pub answer_said : Answer → List ℕ
answer_said a = turn_number a.turn ∷ a.port ∷ bit a.sent ∷ a.byte ∷ bit a.raised ∷ []

-- order 1, of its setting: made; orders 10 and 11: value; order 13: the answer; order 14: made used
unfoldable pub beside_of : Setting → List ℕ → Reply → List ℕ
beside_of s n r =
    pick (eqb (nth n 0) 1) (record_digest (setup s).mux ∷ [])
    (pick (eqb (nth n 0) 10) (r.value ∷ [])
    (pick (eqb (nth n 0) 11) (r.value ∷ [])
    (pick (eqb (nth n 0) 13) (answer_said r.answer)
    (pick (eqb (nth n 0) 14) (r.made ∷ r.used ∷ []) []))))

-- the opcode, the code, and what the order has beside it
abbrev pub told_of : Setting → List ℕ → Reply → List ℕ
told_of s n r = nth n 0 ∷ r.code ∷ beside_of s n r

-- order 13 look: window; order 14 n look: window list
unfoldable pub looked_of : List ℕ → ℕ → List ℕ → List ℕ → List ℕ
looked_of n places m xs =
    pick (eqb (nth n 0) 13) (window_digest m (nth n 1) ∷ [])
    (pick (eqb (nth n 0) 14) (window_digest m (nth n 2) ∷ digest (take places xs) ∷ []) [])

-- orders 1 to 14, of order 1's setting, the reply, and unit, memory and list after the order
abbrev pub unit_said : Setting → List ℕ → Reply → Mux → ℕ → List ℕ → List ℕ → List ℕ
unit_said s n r u places m xs = told_of s n r ++ (record_digest u ∷ looked_of n places m xs)

-- order 26 control: speed
abbrev pub speed_said : List ℕ → List ℕ
speed_said n = nth n 0 ∷ speed_of (nth n 1 % 256) ∷ []

-- orders 30 and 31: memory places
abbrev pub whole_said : ℕ → List ℕ → List ℕ → List ℕ
whole_said op m xs = op ∷ digest m ∷ digest xs ∷ []

-- order 32 form byte: code used cells
abbrev pub written_said : ℕ → Wrote → List ℕ
written_said op w = op ∷ w.answer.code ∷ w.answer.used ∷ digest w.cells ∷ []

-- orders 33 and 35: code byte parity break
abbrev pub frame_said : ℕ → Frame → List ℕ
frame_said op r = op ∷ r.code ∷ r.c ∷ bit r.parity ∷ bit r.brk ∷ []

-- order 33 form: the frame, used cells
abbrev pub read_said : ℕ → Frame → List ℕ → List ℕ
read_said op r cells = frame_said op r ++ (r.used ∷ digest cells ∷ [])

-- order 34 control: form
abbrev pub form_said : ℕ → ℕ → List ℕ
form_said op control = op ∷ form_number (form_of control) ∷ []

-- order 35 port: the frame, called record
abbrev pub arrived_said : ℕ → Frame → ℕ → Mux → List ℕ
arrived_said op r called u = frame_said op r ++ (called ∷ record_digest u ∷ [])
