-- The worked examples hold: each is computed.
-- Not here: what they are, in specs/Examples.
-- Assumes nothing.
use Rattle.std.specs.Prelude.{refl}
use Rattle.std.specs.Int.Count.{ones, ones_in}
use Rattle.ground.specs.Choose.{pick, bit, first_of}
use Rattle.ground.specs.Tab.{tab}
use Rattle.words.specs.Field.{get}
use Rattle.framing.specs.Form.{data_bits, has_parity, stop_cells, first_stop, frame_cells}
use Rattle.framing.specs.Cells.{bit_at, limited, sense, parity_bit, baud, frame_cell}
use Rattle.framing.specs.Write.{write_code, write_frame}
use Rattle.framing.specs.Read.{level, level_at, starts_well, alike, whole_to, data_of, parity_mark, break_mark, read_code, frame_read, read_frame}
use Rattle.framing.specs.Number.{bits_numbered}
use Rattle.framing.specs.Eds8.{bits_of, parity_of, stops_of, form_of}
use Rattle.framing.specs.Examples.{Worked}

pub worked : Worked
unfolding ones ones_in pick bit first_of tab get data_bits has_parity stop_cells first_stop frame_cells bit_at limited sense parity_bit baud frame_cell write_code write_frame level level_at starts_well alike whole_to data_of parity_mark break_mark read_code frame_read read_frame bits_numbered bits_of parity_of stops_of form_of
worked =
    record {
      even = refl;
      odd = refl;
      two_stops = refl;
      top_bit = refl;
      five = refl;
      eight = refl;
      kept = refl;
      no_room = refl;
      noisy = refl;
      wrong_parity = refl;
      break_first = refl;
      break_second = refl;
      both = refl;
      later_stop = refl;
      too_short = refl;
      start_first = refl;
      start_second = refl;
      data_halves = refl;
      parity_halves = refl;
      short_first = refl;
    }
