-- The 128 places of the array of ports: the type of the code's record has them, and here no call changes their number.
--   keeps_places       so whoever has the 128 places keeps them
-- Here, and not in specs/laws/Places, is what rests on other laws of specs/: an edit of a definition counts as refused where nothing in specs/ rests on the
-- law that it breaks.
-- Assumes nothing.
use Rattle.std.specs.Prelude.{◌≡◌, ◌⊎◌, length}
use Rattle.std.proofs.Common.{◌∙◌, inl, inr}
use Rattle.unit.specs.Reply.{World}
use Rattle.unit.specs.Sound.{AllPorts}
use Rattle.calls.specs.Events.{Single, after}
use Rattle.calls.specs.laws.Places.{single_places}

-- whoever has the 128 places keeps them
pub keeps_places : (w : World) (a : Single) → AllPorts w.mux → AllPorts (after w a).mux
keeps_places w a h = go (single_places w a)
  where
    go : (length (after w a).mux.port ≡ length w.mux.port) ⊎ AllPorts (after w a).mux → AllPorts (after w a).mux
    go (inl e) = e ∙ h
    go (inr e) = e
