-- `tape::reader::read` meets its contract. The loop's invariant: what the turns that are left put makes the events that all turns put, and as many fields are left.
use Rattle.std.proofs.Common.{◌≡◌, ◌-◌, ◌≤◌, length}
use Rattle.recording.specs.Scan.{done, scanned}
use Rattle.recording.specs.laws.Fill.{fill}
use Rattle.tape.proofs.reader.read.Given as goal

abbrev pub invariant-loop-place : goal.invariant-loop-place
invariant-loop-place l =
    record {
      fills : fill (l.count - l.place-index) l.place-index l.at l.bytes l.place-items ≡ fill l.count 0 0 l.bytes l.initial.place-items;
      as_long : length l.place-items ≡ l.count;
      fields : (scanned (length l.fn.out - l.place-index) l.bytes (done 0 l.at l.place-index)).count ≡ l.count;
      within : l.count ≤ length l.fn.out;
    }
