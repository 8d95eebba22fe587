-- `recording::reading::scan` meets its contract. The loop's invariant: what is left to read comes to the whole.
use Rattle.std.proofs.Common.{◌≡◌, ◌-◌, ◌≤◌}
use Rattle.recording.specs.Scan.{done, begun, scanned}
use Rattle.recording.proofs.reading.scan.Given as goal

abbrev pub invariant-loop : goal.invariant-loop
invariant-loop l = (scanned (l.most - l.counter) l.bytes (done 0 l.r.at l.r.count) ≡ scanned l.most l.bytes begun) × (l.r.count ≤ l.counter)
