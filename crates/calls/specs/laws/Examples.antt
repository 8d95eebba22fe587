-- The worked examples hold: each is computed.
--   everything        every definition that a step of the unit computes with, named once
--   starred, manual, bases, buffers, sets, stacks, boards   the examples of document 01, those of the 1974 manual, and those of K1, K2, K5, K6 and K7
-- Not here: what the examples are, in specs/Examples.
-- Assumes nothing.
use Rattle.std.specs.Prelude.{refl}
use Rattle.ground.specs.Choose.{pick, bit, asked, first_of}
use Rattle.ground.specs.Tab.{tab}
use Rattle.ground.specs.Machine
use Rattle.words.specs.Field.{get, put}
use Rattle.words.specs.Codes.{stored_byte, word_byte, echoed_byte}
use Rattle.words.specs.Pointer.{at_end}
use Rattle.words.specs.Byte.{half_at, byte_at, store_byte, word_if, byte_if}
use Rattle.words.specs.Special.{is_special, set1974, special_in, with_code}
use Rattle.words.specs.Length.{length_of, span_of, cut}
use Rattle.words.specs.Speed.{speed_of}
use Rattle.interrupt.specs.Interrupt as Interrupt
use Rattle.interrupt.specs.Status.{busy, more_marked, service_marked, status_after}
use Rattle.interrupt.specs.Stack.{entry, pushed, removed, popped, oldest, top}
use Rattle.interrupt.specs.Interrupt.{merged, raised, started, ticked, shown}
use Rattle.unit.specs.Record.{port_at, block_at, address_at}
use Rattle.unit.specs.Reply.{counts, guarded}
use Rattle.unit.specs.Refusals.{bad_block, bad_ports, misaligned, too_high, bad_location, crosses, size_rows, base_rows, area_rows, setting_rows, unsound, rows_of, call_rows, table_of, refusal}
use Rattle.unit.specs.Setup.{setup}
use Rattle.lines.specs.Lines.{signalled, line}
use Rattle.processor.specs.Processor.{order}
use Rattle.processor.specs.Processor as Processor
use Rattle.input.specs.Input.{error_code, ascii, replaced_icw, done_icw, replaced_plan, done_plan, stored_plan, input_plan, carried, input_service}
use Rattle.output.specs.Output.{out_done, is_auto, auto_plan, control_plan, single_plan, output_plan, differs, status_bits, becomes_changed, written_ocw, output_service}
use Rattle.scan.specs.Turn.{service, took, irq_after, served_turn, idle_turn, turn}
use Rattle.scan.specs.Scan.{next_pos, service_turn, scanned, inspection}
use Rattle.calls.specs.Calls.{set_up, performed}
use Rattle.calls.specs.Events.{result, counted}
use Rattle.calls.specs.Examples.{turns_of, Starred, Manual, Bases, Buffers, Sets, Stacks, Boards}

-- every definition that a step of the unit computes with: to unfold this is to unfold them all
unfoldable pub everything : Unit {0}
unfolding pick bit asked first_of Machine.run Machine.total get put stored_byte word_byte echoed_byte at_end half_at byte_at store_byte word_if byte_if tab is_special set1974 special_in with_code length_of span_of cut speed_of busy more_marked service_marked status_after entry pushed removed popped oldest top merged raised started ticked shown Interrupt.cleared Interrupt.unsound port_at block_at address_at counts guarded bad_block bad_ports misaligned too_high bad_location crosses size_rows base_rows area_rows setting_rows unsound rows_of call_rows table_of refusal setup signalled line Processor.after order error_code ascii replaced_icw done_icw replaced_plan done_plan stored_plan input_plan carried input_service out_done is_auto auto_plan control_plan single_plan output_plan differs status_bits becomes_changed written_ocw output_service service took irq_after served_turn idle_turn turn next_pos service_turn scanned inspection set_up performed result counted turns_of
everything = tt

pub starred : Starred
unfolding everything
starred =
    record {
      ports_120 = refl;
      ports_121 = refl;
      base_64 = refl;
      base_32 = refl;
      ports_32 = refl;
      ports_33 = refl;
      first_number = refl;
      special_31 = refl;
      special_124 = refl;
      special_127 = refl;
      ordinary_32 = refl;
      ordinary_123 = refl;
      first_byte = refl;
      next_bytes = refl;
      full_pointer = refl;
      full_done = refl;
      not_done_yet = refl;
      wrapped = refl;
      status_in = refl;
      status_out = refl;
      status_tick = refl;
      fourth = refl;
      first = refl;
    }

pub manual : Manual
unfolding everything
manual =
    record {
      controls = refl;
      device_control = refl;
      no_parity = refl;
      two_stops = refl;
      eight_bits = refl;
      odd = refl;
      speed = refl;
      controls_done = refl;
      line_down = refl;
      line_down_still = refl;
      line_up = refl;
      line_up_ends = refl;
      line_up_stays = refl;
    }

pub bases : Bases
unfolding everything
bases =
    record {
      last_taken = refl;
      last_word = refl;
      first_high = refl;
      last_high = refl;
      both_faults = refl;
      block_first = refl;
      ports_first = refl;
      before_crossing = refl;
      crossing = refl;
    }

pub buffers : Buffers
unfolding everything
buffers =
    record {
      at_byte = refl;
      at_pointer = refl;
      at_done = refl;
      past_done = refl;
      zero_done = refl;
      one_done = refl;
      two_not = refl;
      top_zero = refl;
      top_done = refl;
      top_top = refl;
      top_pointer = refl;
      top_byte = refl;
      last_done = refl;
      last_byte = refl;
      out_at = refl;
      out_round = refl;
      out_round_pointer = refl;
      out_top = refl;
      out_top_pointer = refl;
      noise_icw = refl;
      noise_ibp = refl;
      beside_done = refl;
      across_pointer = refl;
      across_not_done = refl;
      across_end = refl;
      own_none = refl;
      own_icw = refl;
      own_lib = refl;
      own_ibp = refl;
      own_ibp_back = refl;
    }

pub sets : Sets
unfolding everything
sets =
    record {
      kept_first = refl;
      kept_next = refl;
      kept_pointer = refl;
      kept_icw = refl;
      apart_first = refl;
      apart_next = refl;
      apart_pointer = refl;
      apart_icw = refl;
      top_bit = refl;
      all_special = refl;
      all_ordinary = refl;
      sent_special = refl;
      sent_ordinary = refl;
      sent_return = refl;
      reset_keeps = refl;
      refused_keeps = refl;
      accepted_brings = refl;
    }

pub stacks : Stacks
unfolding everything
stacks =
    record {
      first_in = refl;
      first_still = refl;
      next = refl;
      next_flag = refl;
      dias = refl;
      dias_next = refl;
      last = refl;
      last_flag = refl;
      empty_start = refl;
      tick_alone = refl;
      tick_flag = refl;
      tick_fill = refl;
      tick_beside = refl;
      tick_gone = refl;
      forty = refl;
      forty_shown = refl;
      lost_raised = refl;
      lost_written = refl;
      lost_fill = refl;
      lost_shown = refl;
      lost_next = refl;
      lost_last = refl;
      lost_gone = refl;
      reset_gone = refl;
    }

pub boards : Boards
unfolding everything
boards =
    record {
      alone = refl;
      alone_eds_8 = refl;
      high_first = refl;
      ports_96 = refl;
      ports_97 = refl;
      ports_97_eds_8 = refl;
      sixteen = refl;
      sixteen_eds_8 = refl;
      both_8 = refl;
      both_16 = refl;
      both_32 = refl;
      before_crossing = refl;
      crossing_eds_8 = refl;
      block_first = refl;
      ports_first = refl;
      octal_200 = refl;
      octal_400 = refl;
      octal_600 = refl;
      least = refl;
      last = refl;
      delivered = refl;
      record_refused = refl;
      record_taken = refl;
    }
