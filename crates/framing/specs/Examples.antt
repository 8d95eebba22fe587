-- Worked examples of frames (document 02, K3), drawn cell by cell: the glottal stop, octal 174, which is 0011111 from its lowest bit on.
-- Not here: that they hold, in laws/Examples.
-- Assumes nothing.
use Rattle.std.specs.Prelude.{◌≡◌, true, false, List, [], ◌∷◌, ◌++◌, ℕ}
use Rattle.ground.specs.Tab.{tab}
use Rattle.framing.specs.declared.form.DataBits.TheVariants.{Five, Eight}
use Rattle.framing.specs.declared.form.Parity.TheVariants.{Inhibited}
use Rattle.framing.specs.declared.form.Stops.TheVariants.{OneAndHalf, Two}
use Rattle.framing.specs.declared.form.Form.{Form}
use Rattle.framing.specs.Form.{frame_cells}
use Rattle.framing.specs.Cells.{frame_cell}
use Rattle.framing.specs.Write.{wrote, write_frame}
use Rattle.framing.specs.Read.{unread, read_frame}
use Rattle.framing.specs.Eds8.{form_of}

-- every cell of a frame
abbrev drawn : Form → ℕ → List ℕ
drawn f c = tab (frame_cells f) (frame_cell f c)

-- control bits of 7 data bits: with even parity and one stop, with odd parity, with even parity and two stops
abbrev even7 : Form
even7 = form_of 0o50

abbrev odd7 : Form
odd7 = form_of 0o40

abbrev even7_two : Form
even7_two = form_of 0o150

-- forms that are given whole: 5 bits with one and a half stops, and 8 with two
abbrev telegraph : Form
telegraph = record { bits = Five; parity = Inhibited; stops = OneAndHalf }

abbrev plain8 : Form
plain8 = record { bits = Eight; parity = Inhibited; stops = Two }

-- a start and the seven data bits of octal 174, each cell as it is written
abbrev stop174 : List ℕ
stop174 = 0 ∷ 0 ∷ 0 ∷ 0 ∷ 0 ∷ 0 ∷ 1 ∷ 1 ∷ 1 ∷ 1 ∷ 1 ∷ 1 ∷ 1 ∷ 1 ∷ 1 ∷ 1 ∷ []

pub record Worked : Type 0 where
  -- five ones, so even parity makes a sixth and odd parity none; the bit before the stop
  pub even : drawn even7 0o174 ≡ stop174 ++ (1 ∷ 1 ∷ 1 ∷ 1 ∷ [])
  pub odd : drawn odd7 0o174 ≡ stop174 ++ (0 ∷ 0 ∷ 1 ∷ 1 ∷ [])
  pub two_stops : drawn even7_two 0o174 ≡ stop174 ++ (1 ∷ 1 ∷ 1 ∷ 1 ∷ 1 ∷ 1 ∷ [])
  -- the top bit is no part of seven, of the parity neither
  pub top_bit : drawn odd7 0o374 ≡ drawn odd7 0o174
  -- 5-bit code: one and a half stops are three cells
  pub five : drawn telegraph 0o25 ≡ 0 ∷ 0 ∷ 1 ∷ 1 ∷ 0 ∷ 0 ∷ 1 ∷ 1 ∷ 0 ∷ 0 ∷ 1 ∷ 1 ∷ 1 ∷ 1 ∷ 1 ∷ []
  pub eight : drawn plain8 0o201 ≡ 0 ∷ 0 ∷ 1 ∷ 1 ∷ 0 ∷ 0 ∷ 0 ∷ 0 ∷ 0 ∷ 0 ∷ 0 ∷ 0 ∷ 0 ∷ 0 ∷ 0 ∷ 0 ∷ 1 ∷ 1 ∷ 1 ∷ 1 ∷ 1 ∷ 1 ∷ []
  -- written into 22 cells: the last two stay
  pub kept : write_frame odd7 0o174 (tab 22 (λ _. 9)) ≡ wrote (record { code = 0; used = 20 }) (stop174 ++ (0 ∷ 0 ∷ 1 ∷ 1 ∷ 9 ∷ 9 ∷ []))
  pub no_room : write_frame odd7 0o174 (tab 19 (λ _. 9)) ≡ wrote (record { code = 18; used = 0 }) (tab 19 (λ _. 9))
  -- any byte but 0 reads as mark, in both halves alike
  pub noisy : read_frame even7 (0 ∷ 0 ∷ 0 ∷ 0 ∷ 0 ∷ 0 ∷ 1 ∷ 77 ∷ 2 ∷ 1 ∷ 255 ∷ 1 ∷ 1 ∷ 1 ∷ 3 ∷ 128 ∷ 1 ∷ 9 ∷ 1 ∷ 254 ∷ []) ≡ record { code = 0; c = 0o174; parity = false; brk = false; used = 20 }
  pub wrong_parity : read_frame even7 (stop174 ++ (0 ∷ 0 ∷ 1 ∷ 1 ∷ [])) ≡ record { code = 0; c = 0o174; parity = true; brk = false; used = 20 }
  pub break_first : read_frame even7 (stop174 ++ (1 ∷ 1 ∷ 0 ∷ 1 ∷ [])) ≡ record { code = 0; c = 0o174; parity = false; brk = true; used = 20 }
  pub break_second : read_frame even7 (stop174 ++ (1 ∷ 1 ∷ 1 ∷ 0 ∷ [])) ≡ record { code = 0; c = 0o174; parity = false; brk = true; used = 20 }
  pub both : read_frame even7 (stop174 ++ (0 ∷ 0 ∷ 0 ∷ 0 ∷ [])) ≡ record { code = 0; c = 0o174; parity = true; brk = true; used = 20 }
  -- the second of two stops is not looked at, and yet 19 measures it
  pub later_stop : read_frame even7_two (stop174 ++ (1 ∷ 1 ∷ 1 ∷ 1 ∷ 0 ∷ 0 ∷ [])) ≡ record { code = 0; c = 0o174; parity = false; brk = false; used = 22 }
  pub too_short : read_frame even7_two (stop174 ++ (1 ∷ 1 ∷ 1 ∷ 1 ∷ 1 ∷ [])) ≡ unread 19
  -- 20: a start that is no space, in either half; the halves of a data bit differ, or those of the parity bit. A short list has 19 all the same
  pub start_first : read_frame telegraph (1 ∷ 0 ∷ tab 13 (λ _. 1)) ≡ unread 20
  pub start_second : read_frame telegraph (0 ∷ 1 ∷ tab 13 (λ _. 1)) ≡ unread 20
  pub data_halves : read_frame telegraph (0 ∷ 0 ∷ 1 ∷ 0 ∷ tab 11 (λ _. 1)) ≡ unread 20
  pub parity_halves : read_frame even7 (stop174 ++ (1 ∷ 0 ∷ 1 ∷ 1 ∷ [])) ≡ unread 20
  pub short_first : read_frame telegraph (1 ∷ 0 ∷ tab 12 (λ _. 1)) ≡ unread 19
