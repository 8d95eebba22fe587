-- Why a field of a recording is refused, in words.
-- Assumes nothing.
use Rattle.std.specs.Prelude.{List, ℕ, codes, ◌==◌}
use Rattle.ground.specs.Choose.{pick}
use Rattle.recording.specs.Event.{UNKNOWN-TAG, WRONG-LENGTH, CUT-SHORT}

-- by its number
unfoldable pub why : ℕ → List ℕ
why code =
    pick (code == UNKNOWN-TAG) (codes "no field has this tag")
    (pick (code == WRONG-LENGTH) (codes "a field of this tag has another length")
    (pick (code == CUT-SHORT) (codes "the recording ends within this field")
    (codes "a part of this field has a value that it cannot have")))
