-- Everything that document 01 lets an emulator ask of the unit, and one step of the record, the memory and the list.
-- Each step is the definition that the call's own contract cites.
--   set_up          a setup beside a record that stands
--   performed      one thing asked of the unit that stands
--   with_list       a call that leaves the list as it was
--   step_of, step   one call
--   given_to, given_of   what a call is given, for the table of refusals
--   asking, setting_up   a call that is no setup, and one that is
-- Not here: lists of calls, in Events; what follows, in laws/.
-- Assumes nothing.
use Rattle.std.specs.Prelude.{List, ℕ, eqb}
use Rattle.ground.specs.Choose.{pick}
use Rattle.unit.specs.declared.mux.Setting.{Setting}
use Rattle.unit.specs.declared.mux.Mux.{Mux}
use Rattle.unit.specs.Reply.{Replied}
use Rattle.unit.specs.Record.{no_setting}
use Rattle.unit.specs.Reply.{World, Looked, looked, Outcome}
use Rattle.unit.specs.Refusals.{Given, of_setup, of_unit, of_port, of_inspection, of_sweep}
use Rattle.unit.specs.Setup.{setup}
use Rattle.lines.specs.Lines.{line}
use Rattle.processor.specs.Processor.{order}
use Rattle.scan.specs.Scan.{inspection}
use Rattle.sweep.specs.Sweep.{sweep}
use Rattle.calls.specs.declared.call.Act.{Act}
use Rattle.calls.specs.declared.call.Act.TheVariants.{Line, Processor, Inspect}
use Rattle.calls.specs.declared.call.What.{What}
use Rattle.calls.specs.declared.call.What.TheVariants.{Setup, Do, Sweep}
use Rattle.calls.specs.declared.call.Call.{Call}

-- setup makes a new record and touches no old one: a refused one leaves the record that stands
unfoldable pub set_up : Mux → Replied → Replied
set_up u r = record { reply = r.reply; mux = pick (eqb r.reply.code 0) r.mux u }

-- one thing asked of the unit that stands; what the lines and the processor do leaves the memory as it was
unfoldable pub performed : World → Act → Looked
performed w (Line p e) = looked (line w.mux p e) w.memory
performed w (Processor o) = looked (order w.mux o) w.memory
performed w Inspect = inspection w.mux w.memory

-- a call that leaves the list as it was
abbrev pub with_list : Looked → List ℕ → Outcome
with_list l xs = record { reply = l.reply; world = l.world; list = xs }

-- one call, by what is asked
unfoldable pub step_of : World → List ℕ → Setting → What → Outcome
step_of w xs s Setup = with_list (looked (set_up w.mux (setup s)) w.memory) xs
step_of w xs s (Do a) = with_list (performed w a) xs
step_of w xs s (Sweep n) = sweep w.mux w.memory n xs

-- one call
abbrev pub step : World → List ℕ → Call → Outcome
step w xs c = step_of w xs c.setting c.what

-- what one thing asked of the unit that stands is given
unfoldable pub given_to : World → Act → Given
given_to w (Line p e) = of_port w.mux p
given_to w (Processor o) = of_unit w.mux
given_to w Inspect = of_inspection w.mux w.memory

-- what a call is given, for the table of refusals
unfoldable pub given_of : World → List ℕ → Setting → What → Given
given_of w xs s Setup = of_setup s
given_of w xs s (Do a) = given_to w a
given_of w xs s (Sweep n) = of_sweep w.mux w.memory n xs

-- a call that is no setup
abbrev pub asking : What → Call
asking a = record { what = a; setting = no_setting }

-- the call of a setup
abbrev pub setting_up : Setting → Call
setting_up s = record { what = Setup; setting = s }
