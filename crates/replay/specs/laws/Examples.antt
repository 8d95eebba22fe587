-- The worked examples hold: each is computed.
-- Not here: what they are, in specs/Examples.
-- Assumes nothing.
use Rattle.std.specs.Prelude.{refl}
use Rattle.ground.specs.Choose.{pick}
use Rattle.sweep.specs.Sweep.{entered, going, sweep_from, sweep}
use Rattle.calls.specs.Calls.{step_of}
use Rattle.calls.specs.Events.{happens}
use Rattle.calls.specs.laws.Examples.{everything}
use Rattle.recording.specs.Layout.{most, layout_of}
use Rattle.recording.specs.Event.{numbers_fit, none_marked, event_fits, event_code}
use Rattle.replay.specs.Calls.{kind_of, signal_of, order_of, act_of, call_of}
use Rattle.replay.specs.Replay.{room, happening, played, begun, replayed}
use Rattle.replay.specs.Examples.{Tags, Days}

pub tags : Tags
unfolding pick kind_of signal_of order_of act_of call_of
tags =
    record {
      setup_eds8 = refl;
      setup_mighty = refl;
      parity = refl;
      break = refl;
      empty = refl;
      status = refl;
      sweep = refl;
      inspection = refl;
      reset = refl;
      iopls = refl;
      start = refl;
      doc = refl;
      dob = refl;
      dia = refl;
      dias = refl;
      tick = refl;
    }

pub days : Days
unfolding everything entered going sweep_from sweep step_of happens most layout_of numbers_fit none_marked event_fits event_code kind_of signal_of order_of act_of call_of room happening played begun replayed
days =
    record {
      inspected = refl;
      swept = refl;
      calls_between = refl;
      events_between = refl;
      last_word = refl;
      short_memory = refl;
      long_memory = refl;
    }
