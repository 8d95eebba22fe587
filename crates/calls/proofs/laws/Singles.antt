-- A sweep is the inspections that it makes: a list of events comes to a list of single things, with the same world after it.
--   run_singles_lem     running the events is running the single things that they come to
-- Here, and not in specs/laws/Singles, is what rests on other laws of specs/: an edit of a definition counts as refused where nothing in specs/ rests on the
-- law that it breaks.
-- Assumes nothing.
use Rattle.std.specs.Prelude.{◌≡◌, refl, List, [], ◌∷◌, ℕ}
use Rattle.std.proofs.Common.{sym, ◌∙◌}
use Rattle.std.proofs.Math.Path.{ap}
use Rattle.ground.specs.Machine
use Rattle.ground.specs.Machine.{total, tally}
use Rattle.ground.specs.laws.Machine.{run-append}
use Rattle.unit.specs.declared.mux.Setting.{Setting}
use Rattle.unit.specs.Reply.{World}
use Rattle.calls.specs.declared.call.What.{What}
use Rattle.calls.specs.declared.call.What.TheVariants.{Setup, Do, Sweep}
use Rattle.calls.specs.Calls.{step_of}
use Rattle.calls.specs.Events.{Event, calls, host_writes, happens, run, result, after, run_singles, singles_in, singles_of, singles}
use Rattle.calls.specs.laws.Singles.{sweep_singles}

-- ---- the calls

-- a call comes to its single things
call_singles : (w : World) (list : List ℕ) (s : Setting) (a : What) → run_singles w (singles_in w list s a) ≡ (step_of w list s a).world
unfolding singles_in step_of result Machine.run
call_singles w list s Setup = refl
call_singles w list s (Do a) = refl
call_singles w list s (Sweep n) = sweep_singles w n list

-- an event comes to its single things
event_singles : (w : World) (e : Event) → run_singles w (singles_of w e) ≡ happens w e
unfolding singles_of happens result Machine.run
event_singles w (calls c list) = call_singles w list c.setting c.what
event_singles w (host_writes m) = refl

-- running a list of events is running the single things that it comes to
pub run_singles_lem : (w : World) (es : List Event) → run w es ≡ run_singles w (singles w es)
unfolding singles Machine.run
run_singles_lem w [] = refl
run_singles_lem w (e ∷ es) =
    run_singles_lem (happens w e) es
    ∙ ap (λ v. run_singles v (singles (happens w e) es)) (sym (event_singles w e))
    ∙ sym (run-append after w (singles_of w e) (singles (happens w e) es))
