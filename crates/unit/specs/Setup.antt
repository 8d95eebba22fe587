-- Setup (document 01, the unit and the host's memory, and the table of refusals).
-- Not here: which settings are refused, in Refusals; what a fresh unit is, in Record.
-- Assumes nothing.
use Rattle.unit.specs.declared.mux.Setting.{Setting}
use Rattle.unit.specs.Reply.{Replied}
use Rattle.unit.specs.Record.{fresh, no_mux}
use Rattle.unit.specs.Reply.{accepted, guarded}
use Rattle.unit.specs.Refusals.{refusal, of_setup}

-- a fresh unit of that setting, or the number and the record of zeros
unfoldable pub setup : Setting → Replied
setup s = guarded (refusal (of_setup s)) no_mux (accepted 0 (fresh s))
