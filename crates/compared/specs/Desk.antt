-- What a driver keeps (tests/second/FORMAT.md, what a driver keeps).
--   Desk, Kept                                         what is kept beside the memory and the list, and all of it
--   desk_of                                            the desk of the code
--   new_desk                                            the desk at the start of a session
--   with_unit, with_words, with_places, with_codes, with_kind, with_cells, with_part, with_line, closed   the desk with one part changed
-- Not here: what an order makes of it, in Session.
-- Assumes nothing.
use Rattle.std.specs.Prelude.{Bool, true, false, List, ℕ, replicate}
use Rattle.words.specs.Special.{set1974}
use Rattle.unit.specs.declared.mux.Mux.{Mux}
use Rattle.unit.specs.Record.{no_mux}
use Rattle.driver.specs.declared.read.Line.{Line}
use Rattle.driver.specs.Text.{blank}
use Rattle.compared.specs.declared.Desk.{Desk as DeskMade}

-- whether the text goes on, the line being read, the unit, how many words and places are lent, the set and the kind that setups are given, the cells and which of them are lent
pub record Desk : Type 0 where
  pub going : Bool
  pub line : Line
  pub unit : Mux
  pub words : ℕ
  pub places : ℕ
  pub codes : List Bool
  pub kind : ℕ
  pub cells : List ℕ
  pub from : ℕ
  pub lent : ℕ

-- the same of the code's desk, on which orders are carried out only while the text goes on
abbrev pub desk_of : DeskMade → Desk
desk_of d = record { going = true; line = d.line; unit = d.unit; words = d.words; places = d.places; codes = d.codes; kind = d.kind; cells = d.cells; from = d.from; lent = d.lent }

-- the desk, all the words of the memory, all the places of the list
pub record Kept : Type 0 where
  pub desk : Desk
  pub memory : List ℕ
  pub list : List ℕ

abbrev pub kept : Desk → List ℕ → List ℕ → Kept
kept d m xs = record { desk = d; memory = m; list = xs }

-- at the start, and again after each end of session: the record of zeros, 32768 words lent and no place, the 1974 set, an EDS-8, cells of zeros and none lent
abbrev pub new_desk : Desk
new_desk = record { going = true; line = blank; unit = no_mux; words = 32768; places = 0; codes = set1974; kind = 0; cells = replicate 512 0; from = 0; lent = 0 }

-- another unit
abbrev pub with_unit : Desk → Mux → Desk
with_unit d u = record { going = d.going; line = d.line; unit = u; words = d.words; places = d.places; codes = d.codes; kind = d.kind; cells = d.cells; from = d.from; lent = d.lent }

-- so many words lent
abbrev pub with_words : Desk → ℕ → Desk
with_words d k = record { going = d.going; line = d.line; unit = d.unit; words = k; places = d.places; codes = d.codes; kind = d.kind; cells = d.cells; from = d.from; lent = d.lent }

-- so many places lent
abbrev pub with_places : Desk → ℕ → Desk
with_places d k = record { going = d.going; line = d.line; unit = d.unit; words = d.words; places = k; codes = d.codes; kind = d.kind; cells = d.cells; from = d.from; lent = d.lent }

-- another set for setups
abbrev pub with_codes : Desk → List Bool → Desk
with_codes d codes = record { going = d.going; line = d.line; unit = d.unit; words = d.words; places = d.places; codes = codes; kind = d.kind; cells = d.cells; from = d.from; lent = d.lent }

-- another kind for setups
abbrev pub with_kind : Desk → ℕ → Desk
with_kind d kind = record { going = d.going; line = d.line; unit = d.unit; words = d.words; places = d.places; codes = d.codes; kind = kind; cells = d.cells; from = d.from; lent = d.lent }

-- other cells
abbrev pub with_cells : Desk → List ℕ → Desk
with_cells d cells = record { going = d.going; line = d.line; unit = d.unit; words = d.words; places = d.places; codes = d.codes; kind = d.kind; cells = cells; from = d.from; lent = d.lent }

-- so many cells lent, from a place on
abbrev pub with_part : Desk → ℕ → ℕ → Desk
with_part d from k = record { going = d.going; line = d.line; unit = d.unit; words = d.words; places = d.places; codes = d.codes; kind = d.kind; cells = d.cells; from = from; lent = k }

-- the line as it is read so far
abbrev pub with_line : Desk → Line → Desk
with_line d l = record { going = d.going; line = l; unit = d.unit; words = d.words; places = d.places; codes = d.codes; kind = d.kind; cells = d.cells; from = d.from; lent = d.lent }

-- at the end of the text
abbrev pub closed : Desk → Desk
closed d = record { going = false; line = d.line; unit = d.unit; words = d.words; places = d.places; codes = d.codes; kind = d.kind; cells = d.cells; from = d.from; lent = d.lent }
