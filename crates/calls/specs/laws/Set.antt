-- The unit's set of special codes over calls (document 02, K5: "kept in the record").
--   keeps_setting   every single thing but a setup that is not refused leaves the setting as it was, the set in it
--   brings_setting  a setup that is not refused brings its own
-- In proofs/laws/Set, since they rest on these: set_since.
-- Not here: that setup's own answer, the lines and the processor do not read it, in unit, laws/Set, and in the laws of lines and processor; what an inspection and
-- a sweep make of it, in laws/Set of scan and sweep.
-- Assumes nothing.
use Rattle.std.specs.Prelude.{◌≡◌, refl}
use Rattle.std.proofs.Common.{ne_eqb}
use Rattle.ground.specs.Choose.{pick}
use Rattle.unit.specs.declared.mux.Setting.{Setting}
use Rattle.unit.specs.Reply.{World}
use Rattle.unit.specs.Refusals.{refusal, of_setup}
use Rattle.unit.proofs.laws.Replies.{setup_accepted, setup_refused}
use Rattle.lines.proofs.laws.Lines.{line_keeps}
use Rattle.processor.specs.laws.Processor.{order_setting}
use Rattle.scan.proofs.laws.Scan.{inspection_setting}
use Rattle.calls.specs.declared.call.Act.TheVariants.{Line, Processor, Inspect}
use Rattle.calls.specs.Calls.{set_up, performed}
use Rattle.calls.specs.Events.{Single, NoSetup, sets_up, does, writes, result, after}

pub keeps_setting : (w : World) (a : Single) → NoSetup a → (after w a).mux.setting ≡ w.mux.setting
unfolding result performed set_up pick
keeps_setting w (sets_up s) h = rw (setup_refused s h, ne_eqb (refusal (of_setup s)) 0 h)
keeps_setting w (does (Line p e)) h = (line_keeps w.mux p e).setting
keeps_setting w (does (Processor o)) h = order_setting w.mux o
keeps_setting w (does Inspect) h = inspection_setting w.mux w.memory
keeps_setting w (writes m) h = refl

pub brings_setting : (w : World) (s : Setting) → refusal (of_setup s) ≡ 0 → (after w (sets_up s)).mux.setting ≡ s
unfolding result set_up pick
brings_setting w s z = rw (setup_accepted s z)
