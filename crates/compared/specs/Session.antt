-- What each order of a session's text leaves, and the text taken byte by byte (tests/second/FORMAT.md, Orders).
--   called_lent, standing, unit_order   orders 1 to 14
--   cells_after, cells_order, kind_order, set_order, desk_order, host_order   orders 15 to 25 and 27 to 29
--   end_order                          orders 30 and 31
--   write_order, frame_in, arrive_order, frame_order, late_order   orders 32 to 35, and from 30 on
--   order_by, order                    any order by its numbers, 26 among them; the order of the line that has been read
--   take_byte, played                  one byte of the text, and all of it: a fold
--   shut                              the end of the text
--   Driven                            what is known where the text comes from outside
-- Not here: the call that a line asks for, in Orders; what is printed, in Said.
-- Assumes nothing.
use Rattle.std.specs.Prelude.{◌≡◌, ◌&&◌, ℕ, ◌%◌, eqb, ltb, length, take, drop, set}
use mathlib.Core.List.{List, ◌++◌, map, foldl}
use Rattle.std.proofs.lemmas.List.Edits.{sets}
use Rattle.ground.specs.Choose.{pick}
use Rattle.words.specs.Special.{with_code}
use Rattle.framing.specs.declared.form.Form.{Form}
use Rattle.framing.specs.Number.{form_numbered}
use Rattle.framing.specs.Read.{Frame, read_frame}
use Rattle.unit.specs.declared.mux.Setting.{Setting}
use Rattle.unit.specs.declared.mux.Mux.{Mux}
use Rattle.unit.specs.Reply.{world, Outcome}
use Rattle.unit.specs.Setup.{setup}
use Rattle.calls.specs.declared.call.Call.{Call}
use Rattle.calls.specs.Calls.{step}
use Rattle.driver.specs.declared.read.Line.{Line}
use Rattle.driver.specs.Host.{series, span, bytes_of}
use Rattle.driver.specs.Poke.{level, poked, poked_place, poked_port, poked_special}
use Rattle.driver.specs.Text.{blank, typed}
use Rattle.compared.specs.Desk.{Desk, Kept, kept, new_desk, with_unit, with_words, with_places, with_codes, with_kind, with_cells, with_part, with_line, closed}
use Rattle.compared.specs.Orders.{nth, setting_of, call_of, set_of, arrival_call}
use Rattle.compared.specs.Frames.{part, write_lent, form_at}

-- what a call left of the lent words and places, and the rest behind them as it was
abbrev pub lent_back : Outcome → List ℕ → List ℕ → Outcome
lent_back o m xs = record { reply = o.reply; world = world o.world.mux (o.world.memory ++ m); list = o.list ++ xs }

-- a call on the unit, the first words of the memory and the first places of the list
unfoldable pub called_lent : Kept → Call → Outcome
called_lent k c =
    lent_back
    (step (world k.desk.unit (take k.desk.words k.memory)) (take k.desk.places k.list) c)
    (drop k.desk.words k.memory)
    (drop k.desk.places k.list)

-- the unit after orders 1 to 14, of the one that the call left: the record of a setup with take 1, refused or not
unfoldable pub standing : Mux → Setting → List ℕ → Mux
standing u s n = pick (eqb (nth n 0) 1 && eqb (nth n 4) 1) (setup s).mux u

-- orders 1 to 14: the call, and the unit that stands after it
abbrev pub unit_after : Desk → Setting → List ℕ → Outcome → Kept
unit_after d s n o = kept (with_unit d (standing o.world.mux s n)) o.world.memory o.list

unfoldable pub unit_order : Kept → List ℕ → Kept
unit_order k n =
    let s = setting_of k.desk.kind k.desk.codes n in
    unit_after k.desk s n (called_lent k (call_of s n))

-- order 17 place word; order 18 x m
unfoldable pub cells_after : List ℕ → List ℕ → List ℕ
cells_after cells n =
    pick (eqb (nth n 0) 17) (sets cells (nth n 1) (bytes_of (nth n 2)))
    (pick (eqb (nth n 0) 18) (series (span (nth n 2)) (length cells) (nth n 1)) cells)

-- order 19 from cells; else the cells themselves
unfoldable pub cells_order : Desk → List ℕ → Desk
cells_order d n = pick (eqb (nth n 0) 19) (with_part d (nth n 1) (nth n 2)) (with_cells d (cells_after d.cells n))

-- order 15 kind; order 16 place word; else the cells
unfoldable pub kind_order : Desk → List ℕ → Desk
kind_order d n =
    pick (eqb (nth n 0) 15) (with_kind d (nth n 1))
    (pick (eqb (nth n 0) 16) (with_unit d (poked_place d.unit (nth n 1) (nth n 2))) (cells_order d n))

-- order 27 code yes; order 28 which; order 29 code yes; else the kind, the stack and the cells
unfoldable pub set_order : Desk → List ℕ → Desk
set_order d n =
    pick (eqb (nth n 0) 27) (with_codes d (with_code d.codes (nth n 1 % 256) (level (nth n 2))))
    (pick (eqb (nth n 0) 28) (with_codes d (set_of (nth n 1)))
    (pick (eqb (nth n 0) 29) (with_unit d (poked_special d.unit (nth n 1) (nth n 2))) (kind_order d n)))

-- order 22 words; order 24 field value; order 25 port field value; else the set, the kind, the stack and the cells
unfoldable pub desk_order : Desk → List ℕ → Desk
desk_order d n =
    pick (eqb (nth n 0) 22) (with_words d (nth n 1))
    (pick (eqb (nth n 0) 24) (with_unit d (poked d.unit (nth n 1) (nth n 2)))
    (pick (eqb (nth n 0) 25) (with_unit d (poked_port d.unit (nth n 1) (nth n 2) (nth n 3))) (set_order d n)))

-- order 20 address word; order 21 x; order 23 places value; else the desk alone
unfoldable pub host_order : Kept → List ℕ → Kept
host_order k n =
    pick (eqb (nth n 0) 20) (kept k.desk (set k.memory (nth n 1) (nth n 2 % 65536)) k.list)
    (pick (eqb (nth n 0) 21) (kept k.desk (series 65536 (length k.memory) (nth n 1)) k.list)
    (pick (eqb (nth n 0) 23) (kept (with_places k.desk (nth n 1)) k.memory (map (λ _. nth n 2 % 65536) k.list))
    (kept (desk_order k.desk n) k.memory k.list)))

-- order 30 changes nothing; after order 31 everything is as at the start
unfoldable pub end_order : Kept → ℕ → Kept
end_order k op = pick (eqb op 31) (kept new_desk (map (λ _. 0) k.memory) (map (λ _. 0) k.list)) k

-- order 32 form byte
unfoldable pub write_order : Desk → List ℕ → Desk
write_order d n =
    with_cells d (write_lent (form_numbered (nth n 1)) (nth n 2 % 256) d.cells d.from d.lent).cells

-- a frame read from the cells lent
unfoldable pub frame_in : Desk → Form → Frame
frame_in d f = read_frame f (part d.cells d.from d.lent)

-- order 35 port: the call with the frame that was read by the port's control bits; where the reading is refused, none
abbrev pub arrived_after : Desk → Outcome → Kept
arrived_after d o = kept (with_unit d o.world.mux) o.world.memory o.list

unfoldable pub arrive_order : Kept → List ℕ → Kept
arrive_order k n =
    let r = frame_in k.desk (form_at k.desk.unit (nth n 1)) in
    pick (eqb r.code 0) (arrived_after k.desk (called_lent k (arrival_call (nth n 1) r))) k

-- order 32 the cells; orders 33 form and 34 control are printed alone; else order 35
unfoldable pub frame_order : Kept → List ℕ → Kept
frame_order k n =
    pick (eqb (nth n 0) 32) (kept (write_order k.desk n) k.memory k.list)
    (pick (eqb (nth n 0) 33) k
    (pick (eqb (nth n 0) 34) k (arrive_order k n)))

-- orders from 30 on: 32 to 35 frames, else the end
unfoldable pub late_order : Kept → List ℕ → Kept
late_order k n = pick (ltb 31 (nth n 0) && ltb (nth n 0) 36) (frame_order k n) (end_order k (nth n 0))

-- an order by its numbers: 1 to 14 the unit, 15 to 25 and 27 to 29 the host, 26 printed alone, 32 to 35 frames, 30 and 31 the end
unfoldable pub order_by : Kept → List ℕ → Kept
order_by k n =
    pick (ltb (nth n 0) 15) (unit_order k n)
    (pick (eqb (nth n 0) 26) k
    (pick (ltb (nth n 0) 30) (host_order k n) (late_order k n)))

-- the order of the line that has been read
abbrev pub order : Kept → Kept
order k = order_by k k.desk.line.n

-- another line on the desk
abbrev pub lined : Kept → Line → Kept
lined k l = kept (with_line k.desk l) k.memory k.list

-- one byte of the text: it is typed on the line, and a newline carries the order out
unfoldable pub take_byte : Kept → ℕ → Kept
take_byte k b =
    let j : Kept = lined k (typed k.desk.line b) in
    pick (eqb b 10) (lined (order j) blank) j

-- a text taken byte by byte
abbrev pub played : Kept → List ℕ → Kept
played k text = foldl take_byte k text

-- the text has ended: the desk is closed, and all else stays
abbrev pub shut : Kept → Kept
shut k = kept (closed k.desk) k.memory k.list

-- a whole run: some text was taken from the start of a session on, and this is the memory and the list that it leaves
pub record Driven (m xs m' xs' : List ℕ) : Type 0 where
  pub text : List ℕ
  pub memory : m' ≡ (played (kept new_desk m xs) text).memory
  pub list : xs' ≡ (played (kept new_desk m xs) text).list
