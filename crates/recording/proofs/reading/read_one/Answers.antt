-- `recording::reading::read_one` meets its contract: past the end no field stands.
use Rattle.std.proofs.Common.{sym, arith}
use Rattle.recording.specs.laws.Scan.{at_bad, past_end}
use Rattle.recording.proofs.reading.read_one.Goals as goal

pub returns-then-bytes-at-clause-event : goal.returns-then-bytes-at-clause-event
returns-then-bytes-at-clause-event c = let a = c.args in sym (at_bad a.bytes.now a.at (past_end a.bytes.now a.at (omega (arith, c.if-bytes-at.true))))

pub returns-then-bytes-at-clause-good : goal.returns-then-bytes-at-clause-good
returns-then-bytes-at-clause-good c = let a = c.args in (λ e. cc, λ e. absurd (past_end a.bytes.now a.at (omega (arith, c.if-bytes-at.true)) e))
