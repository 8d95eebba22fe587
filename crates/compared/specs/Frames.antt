-- Frames in the text of sessions (tests/second/FORMAT.md, orders 32 to 35).
--   part, put_part, write_lent   the cells that are lent, and a frame written into them
--   form_at                     the form that a port's control bits ask for
-- Not here: what a frame is, and forms by number, in the crate framing; what the orders leave, in Session; what they print, in Said.
-- Assumes nothing.
use Rattle.std.specs.Prelude.{List, ◌++◌, ℕ, ◌%◌, take, drop}
use Rattle.framing.specs.declared.form.Form.{Form}
use Rattle.framing.specs.Write.{Wrote, wrote, write_frame}
use Rattle.framing.specs.Eds8.{form_of}
use Rattle.unit.specs.declared.mux.Mux.{Mux}
use Rattle.unit.specs.Record.{port_at}

-- the cells from a place on, so many of them, or as many as there are
abbrev pub part : List ℕ → ℕ → ℕ → List ℕ
part cells from k = take k (drop from cells)

-- what a call left of that part, and the cells before and behind it as they were
abbrev pub put_part : List ℕ → ℕ → ℕ → Wrote → Wrote
put_part cells from k w = wrote w.answer (take from cells ++ (w.cells ++ drop k (drop from cells)))

unfoldable pub write_lent : Form → ℕ → List ℕ → ℕ → ℕ → Wrote
write_lent f c cells from k = put_part cells from k (write_frame f c (part cells from k))

-- the form that the control bits of a port ask for: one of the 128, so a number above them counts on from 0 again
unfoldable pub form_at : Mux → ℕ → Form
form_at u port = form_of (port_at u (port % 128)).control
