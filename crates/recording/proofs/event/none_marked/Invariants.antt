-- The loop's invariant: none so far, and none of those that are left, is none at all.
use Rattle.std.proofs.Common.{◌≡◌, ◌&&◌, drop}
use Rattle.recording.specs.Event.{none_marked}
use Rattle.recording.proofs.event.none_marked.Given as goal

abbrev pub invariant-loop-yes : goal.invariant-loop-yes
invariant-loop-yes l = (l.none && none_marked (drop l.yes-index l.fn.set)) ≡ none_marked l.fn.set
