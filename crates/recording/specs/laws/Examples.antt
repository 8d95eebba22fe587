-- The worked examples hold: each is computed.
-- Not here: what they are, in specs/Examples.
-- Assumes nothing.
use Rattle.std.specs.Prelude.{refl}
use Rattle.ground.specs.Choose.{pick, bit, first_of}
use Rattle.ground.specs.Tab.{tab}
use Rattle.recording.specs.Layout.{width_of, size, most, layout_of, data_length}
use Rattle.recording.specs.Event.{numbers_fit, none_marked, event_fits, event_code}
use Rattle.recording.specs.Field.{bytes_of, marks_of, numbers_of, field, number_in, marks_in, marks, event_in, read_fits, field_code}
use Rattle.recording.specs.Scan.{scan_one, scanned, checked, one_at, heard, read}
use Rattle.recording.specs.Pass.{written, fault, full, write}
use Rattle.recording.specs.Examples.{Worked}

pub worked : Worked
unfolding pick bit first_of tab width_of size most layout_of data_length numbers_fit none_marked event_fits event_code bytes_of marks_of numbers_of field number_in marks_in marks event_in read_fits field_code scan_one scanned checked one_at heard read written fault full write
worked =
    record {
      setup_field = refl;
      arrival_field = refl;
      empty-field = refl;
      status_field = refl;
      sweep_field = refl;
      write_field = refl;
      tick_field = refl;
      both_read = refl;
      one_read = refl;
      setup_read = refl;
      tag_low = refl;
      tag_high = refl;
      no_length = refl;
      half_length = refl;
      long_length = refl;
      bad_too = refl;
      no_data = refl;
      level_two = refl;
      parity_two = refl;
      break_two = refl;
      kind_two = refl;
      set_two = refl;
      word_32768 = refl;
      word_32767 = refl;
      second_first = refl;
      third_full = refl;
      fourth_bad = refl;
      written = refl;
      greatest = refl;
      unknown = refl;
      unused = refl;
      last_unused = refl;
      no_set = refl;
      write_32768 = refl;
      full = refl;
      later_bad = refl;
    }
