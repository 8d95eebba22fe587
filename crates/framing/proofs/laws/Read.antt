-- What is read of a list of cells.
-- Here, and not in specs/laws/Read, is what rests on other laws of specs/: an edit of a definition counts as refused where nothing in specs/ rests on the
-- law that it breaks.
-- Assumes nothing.
use Rattle.std.specs.Prelude.{List, ℕ, ◌<◌, get_or}
use Rattle.framing.specs.Read.{level_at}
use Rattle.framing.specs.laws.Read.{level_below}

pub level_at_below : (cells : List ℕ) (i : ℕ) → level_at cells i < 2
unfolding level_at
level_at_below cells i = level_below (get_or cells i 0)
