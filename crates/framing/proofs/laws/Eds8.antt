-- The form of an EDS-8's control bits (document 02, K3; 001, 4.2 bits 8 to 12).
--   eds8_back                  a frame written and read by it gives that cut, unmarked
-- Here, and not in specs/laws/Eds8, is what rests on other laws of specs/: an edit of a definition counts as refused where nothing in specs/ rests on the
-- law that it breaks.
-- Assumes nothing.
use Rattle.std.specs.Prelude.{◌≡◌, false, List, ℕ, ◌≤◌, length}
use Rattle.std.proofs.Common.{◌∙◌, ap}
use Rattle.words.specs.Length.{cut}
use Rattle.framing.specs.Form.{frame_cells}
use Rattle.framing.specs.Write.{write_frame}
use Rattle.framing.specs.Read.{read_frame}
use Rattle.framing.specs.Eds8.{form_of}
use Rattle.framing.specs.laws.Frames.{heard}
use Rattle.framing.proofs.laws.Frames.{reads_back}
use Rattle.framing.specs.laws.Eds8.{eds8_cut}

-- a frame that is written and read by them gives the base's own cut, unmarked
pub eds8_back : (control c : ℕ) (d : List ℕ) → frame_cells (form_of control) ≤ length d → read_frame (form_of control) (write_frame (form_of control) c d).cells ≡ heard (form_of control) (cut control c) false false
eds8_back control c d h = reads_back (form_of control) c d h ∙ ap (λ (x : ℕ). heard (form_of control) x false false) (eds8_cut control c)
