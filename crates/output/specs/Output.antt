-- The output service of a port (document 01, Output; document 02, K5: what is special is what the unit's set says).
--   output_plan      OUTDONE already set, then the four modes, a branch each
--   status_bits      bits 4, 5 and 7 of OCW
--   written_ocw      OCW as it is written, last
--   output_service   OCW, OBP and LOB read first; OBP stored, the byte fetched, OCW stored in that order
-- Not here: the bits of OCW, in words' Codes; special codes, in words' Special; when a port is served, and the transmitter that takes the
-- byte, in scan; what follows, in laws/.
-- Assumes nothing.
use Rattle.std.specs.Prelude.{Bool, true, false, not, ◌&&◌, ◌||◌, List, ℕ, ◌+◌, eqb, get_or, set}
use Rattle.ground.specs.Choose.{pick, bit}
use Rattle.words.specs.Field.{get, put}
use Rattle.words.specs.Codes.{at_ocw, at_obp, at_lob, OUTDONE, OUTMO, out_none, out_auto, out_control, SPECIAL-REQUEST, DEVICE-CONTROL, DEVICE-STATUS, PREVIOUS-STATUS, UNUSED, STATUS-CHANGED, CHARACTER}
use Rattle.words.specs.Pointer.{step_ptr, at_end}
use Rattle.words.specs.Byte.{byte_at, word_if}
use Rattle.words.specs.Special.{special_in}
use Rattle.unit.specs.declared.mux.Port.{Port}
use Rattle.unit.specs.Reply.{Serviced, serviced}
use Rattle.output.specs.Plan.{Plan}

-- OUTDONE is set
unfoldable pub out_done : ℕ → Bool
out_done ocw = eqb (get OUTDONE ocw) 1

-- the service is an automatic output: OUTDONE clear and mode 01
unfoldable pub is_auto : ℕ → Bool
is_auto ocw = not (out_done ocw) && eqb (get OUTMO ocw) out_auto

-- nothing handed over, the port as it was
abbrev pub idle_plan : Port → Plan
idle_plan q = record { sent = false; byte = 0; done = false; control = q.control; devcontrol = q.devcontrol }

-- 01: the fetched byte; done if the buffer ends with it, or bit 3 is 1 and the byte is special
unfoldable pub auto_plan : ℕ → Port → ℕ → Bool → Bool → Plan
auto_plan ocw q fetched last special =
    record {
      sent = true;
      byte = fetched;
      done = last || (eqb (get SPECIAL-REQUEST ocw) 1 && special);
      control = q.control;
      devcontrol = q.devcontrol;
    }

-- 10: bit 3 to Device Control, bits 8 to 15 to the control bits; done
unfoldable pub control_plan : ℕ → Plan
control_plan ocw =
    record { sent = false; byte = 0; done = true; control = get CHARACTER ocw; devcontrol = eqb (get DEVICE-CONTROL ocw) 1 }

-- 11: bits 8 to 15 handed over; done
unfoldable pub single_plan : ℕ → Port → Plan
single_plan ocw q =
    record { sent = true; byte = get CHARACTER ocw; done = true; control = q.control; devcontrol = q.devcontrol }

-- what is done, by OCW as read, the port, the byte fetched, whether the buffer ends with it and whether it is special
unfoldable pub output_plan : ℕ → Port → ℕ → Bool → Bool → Plan
output_plan ocw q fetched last special =
    -- OUTDONE already set
    pick (out_done ocw) (idle_plan q)
    -- 00
    (pick (eqb (get OUTMO ocw) out_none) (idle_plan q)
    -- 01
    (pick (eqb (get OUTMO ocw) out_auto) (auto_plan ocw q fetched last special)
    -- 10, 11
    (pick (eqb (get OUTMO ocw) out_control) (control_plan ocw) (single_plan ocw q))))

-- the Device Status line differs from bit 4 as read
unfoldable pub differs : ℕ → Bool → Bool
differs ocw line = not (eqb (get DEVICE-STATUS ocw) (bit line))

-- bit 4 takes the line, bit 5 takes bit 4 as read, bit 7 is set where the two differ and else kept
unfoldable pub status_bits : ℕ → Bool → ℕ
status_bits ocw line =
    put STATUS-CHANGED (pick (differs ocw line) 1 (get STATUS-CHANGED ocw))
    (put PREVIOUS-STATUS (get DEVICE-STATUS ocw) (put DEVICE-STATUS (bit line) ocw))

-- bit 7 becomes 1: 0 as read, 1 as written
unfoldable pub becomes_changed : ℕ → Bool → Bool
becomes_changed ocw line = eqb (get STATUS-CHANGED ocw) 0 && differs ocw line

-- OCW as it is written. OUTDONE already set: only the status bits. Else bit 6 is 0 and bit 0 says done.
unfoldable pub written_ocw : ℕ → Bool → Bool → ℕ
written_ocw ocw line done =
    pick (out_done ocw) (status_bits ocw line) (put OUTDONE (bit done) (put UNUSED 0 (status_bits ocw line)))

-- the output service of the port q, whose control block starts at the word a, in a unit with that set of special codes
unfoldable pub output_service : List Bool → List ℕ → ℕ → Port → Serviced
output_service codes m a q =
    let ocw = get_or m (a + at_ocw) 0 in
    let obp = get_or m (a + at_obp) 0 in
    let lob = get_or m (a + at_lob) 0 in
    let next = step_ptr obp in
    let stepped = word_if (is_auto ocw) m (a + at_obp) next in
    let fetched = byte_at stepped next in
    let plan = output_plan ocw q fetched (at_end obp lob) (special_in codes fetched) in
    let done = not (out_done ocw) && (plan.done || becomes_changed ocw q.devstatus) in
    serviced
    (record
    { sent = plan.sent; byte = plan.byte; raised = done; control = plan.control; devcontrol = plan.devcontrol })
    (set stepped (a + at_ocw) (written_ocw ocw q.devstatus done))
