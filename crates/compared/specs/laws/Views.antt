-- What the code keeps is settled by what the definitions say of it: two desks that look the same are the same.
--   desk_one   of the desk
-- Not here: the view itself, in specs/Desk.
-- Assumes nothing.
use Rattle.std.specs.Prelude.{◌≡◌}
use Rattle.std.proofs.Common.{ap}
use Rattle.compared.specs.declared.Desk.{Desk as DeskMade}
use Rattle.compared.specs.Desk.{Desk, desk_of}

-- the code's desk, of the definitions'
abbrev pub desk_made : Desk → DeskMade
desk_made d = record { line = d.line; unit = d.unit; words = d.words; places = d.places; codes = d.codes; kind = d.kind; cells = d.cells; from = d.from; lent = d.lent }

-- two desks that look the same are one
pub desk_one : (a b : DeskMade) → desk_of a ≡ desk_of b → a ≡ b
desk_one a b h = ap desk_made h
