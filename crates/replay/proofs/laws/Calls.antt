-- Every call has its event: the call is what it records.
--   call_back       the event of a call records that call
--   recorded_call   what happens where it is played
-- Not here: that the writer takes it, and what a host write's event does, in specs/laws/Calls.
-- Assumes nothing.
use Rattle.std.specs.Prelude.{◌≡◌, ℕ, replicate}
use Rattle.std.proofs.Common.{◌∙◌, ap}
use borrow.Author.Tests.{eqb-false}
use Rattle.unit.specs.declared.mux.Setting.{Setting}
use Rattle.unit.specs.Reply.{World}
use Rattle.calls.specs.declared.call.What.{What}
use Rattle.calls.specs.declared.call.What.TheVariants.{Setup, Do, Sweep}
use Rattle.calls.specs.declared.call.Call.{Call}
use Rattle.calls.specs.Calls.{step}
use Rattle.replay.specs.Calls.{call_of, what_event}
use Rattle.replay.specs.Replay.{room, played}
use Rattle.replay.specs.laws.Plays.{played_call}
use Rattle.replay.specs.laws.Calls.{WhatFits, plain, setup_back, act_back, sweep_back, event_taken_lem, what_other}

-- the event of a call records that call
pub call_back : (s : Setting) (list : ℕ) (a : What) → WhatFits s list a → call_of (what_event s list a) ≡ plain s a
unfolding what_event
call_back s list Setup h = setup_back s
call_back s list (Do a) h = act_back a h
call_back s list (Sweep n) h = sweep_back n list

-- a call that is recorded and played is that call, with a list of zeros of the recorded length
pub recorded_call : (w : World) (s : Setting) (list : ℕ) (a : What) → WhatFits s list a
    → played w (what_event s list a) ≡ (step w (replicate (room (what_event s list a)) 0) (plain s a)).world
recorded_call w s list a h =
    let e = what_event s list a in
    played_call w e (event_taken_lem s list a h) (eqb-false e.tag 6 (what_other s list a)) ∙ ap (λ (c : Call). (step w (replicate (room e) 0) c).world) (call_back s list a h)
