-- From the wire into the unit (document 02, K3).
--   framed_for           a frame written for a port's control bits, read by them, as an arrival
--   framed_arrival      it is the arrival of the character, cut to the port's length, without a mark
--   framed_line         and the unit does what it does when the character itself arrives there, unmarked; refusals too
--   framed_step, framed_call   the same of the call that an emulator makes, and through the door
--   framed_held         so the port holds that character, with neither mark of its own
--   AsRead, any_held    whatever was read, marks and all, is held as it was read
-- Not here: what is read of a frame that was changed, in framing; what becomes of a held character, in input.
-- Assumes nothing.
use Rattle.std.specs.Prelude.{◌≡◌, refl, true, false, List, ℕ, ◌^◌, ◌<◌, ◌≤◌, length}
use Rattle.std.proofs.Common.{◌∙◌, ap, subst, mod-eq_of_lt}
use Rattle.std.proofs.Math.Nat.{mod-mod}
use Rattle.words.specs.Length.{span_of, cut}
use Rattle.framing.specs.Form.{frame_cells}
use Rattle.framing.specs.Write.{write_frame}
use Rattle.framing.specs.Read.{Frame, read_frame}
use Rattle.framing.specs.Eds8.{form_of}
use Rattle.framing.proofs.laws.Any.{read_below}
use Rattle.framing.specs.laws.Eds8.{eds8_bits}
use Rattle.framing.proofs.laws.Eds8.{eds8_back}
use Rattle.unit.specs.declared.mux.Port.{Port}
use Rattle.unit.specs.declared.mux.Mux.{Mux}
use Rattle.unit.specs.Reply.{Reply}
use Rattle.unit.specs.Record.{port_at}
use Rattle.unit.specs.Reply.{World}
use Rattle.unit.specs.Refusals.{refusal, of_port}
use Rattle.lines.specs.declared.signal.Signal.{Signal}
use Rattle.lines.specs.declared.signal.Signal.TheVariants.{Arrival}
use Rattle.lines.specs.Lines.{signalled, line}
use Rattle.lines.specs.laws.Lines.{CharacterOnly, arrived_only}
use Rattle.lines.proofs.laws.Lines.{arrived}
use Rattle.calls.specs.declared.call.Act.TheVariants.{Line}
use Rattle.calls.specs.declared.call.What.TheVariants.{Do}
use Rattle.calls.specs.Calls.{performed, step_of, step, asking}
use Rattle.door.specs.Door.{Meets}
use Rattle.wire.specs.Wire.{arrival_of}

-- port q' is q with the character of the frame r held, its marks those of r and its bits those that were read
pub record AsRead (q : Port) (r : Frame) (q' : Port) : Type 0 where
  pub only : CharacterOnly q r.c r.parity r.brk q'
  pub byte : q'.ch.byte ≡ r.c

-- a frame of c, written into the list d and read from it, both by the same control bits, as an arrival
abbrev pub framed_for : ℕ → ℕ → List ℕ → Signal
framed_for control c d = arrival_of (read_frame (form_of control) (write_frame (form_of control) c d).cells)

-- it is the character cut to the port's length, without a mark
pub framed_arrival : (control c : ℕ) (d : List ℕ) → frame_cells (form_of control) ≤ length d → framed_for control c d ≡ Arrival (cut control c) false false
framed_arrival control c d h = ap arrival_of (eds8_back control c d h)

cut_again : (control c : ℕ) → cut control (cut control c) ≡ cut control c
unfolding cut
cut_again control c = mod-mod c (span_of control)

-- the port cuts what is cut already, and so holds what it would hold of the character itself
same_port : (q : Port) (c : ℕ) (d : List ℕ) → frame_cells (form_of q.control) ≤ length d → signalled q (framed_for q.control c d) ≡ signalled q (Arrival c false false)
unfolding signalled
same_port q c d h = ap (signalled q) (framed_arrival q.control c d h) ∙ ap (again q) (cut_again q.control c)
  where
    again : Port → ℕ → Port
    again r x = record { held = true; ch = record { byte = x; parity = false; brk = false; overload = r.held }; empty = r.empty; control = r.control; devcontrol = r.devcontrol; devstatus = r.devstatus }

-- the call does what it does when the character itself arrives, unmarked: every number, and every part of the record
pub framed_line : (u : Mux) (p c : ℕ) (d : List ℕ) → frame_cells (form_of (port_at u p).control) ≤ length d → line u p (framed_for (port_at u p).control c d) ≡ line u p (Arrival c false false)
unfolding line
framed_line u p c d h = rw (same_port (port_at u p) c d h) refl

-- so does the call that an emulator makes: reply, record, memory and list
pub framed_step : (w : World) (xs : List ℕ) (p c : ℕ) (d : List ℕ) → frame_cells (form_of (port_at w.mux p).control) ≤ length d → step w xs (asking (Do (Line p (framed_for (port_at w.mux p).control c d)))) ≡ step w xs (asking (Do (Line p (Arrival c false false))))
unfolding step_of performed
framed_step w xs p c d h = rw (framed_line w.mux p c d h) refl

-- and through the door: whatever meets the contract of the one call meets that of the other
pub framed_call : (w : World) (xs : List ℕ) (p c : ℕ) (d : List ℕ) (r : Reply) (u : Mux) (m ys : List ℕ) → frame_cells (form_of (port_at w.mux p).control) ≤ length d → Meets w xs (asking (Do (Line p (framed_for (port_at w.mux p).control c d)))) r u m ys → Meets w xs (asking (Do (Line p (Arrival c false false)))) r u m ys
framed_call w xs p c d r u m ys h e = e ∙ framed_step w xs p c d h

-- so a port that takes it holds that character, with neither mark of its own, and nothing else of the port has changed
pub framed_held : (u : Mux) (p c : ℕ) (d : List ℕ) → refusal (of_port u p) ≡ 0 → p < length u.port → frame_cells (form_of (port_at u p).control) ≤ length d → CharacterOnly (port_at u p) c false false (port_at (line u p (framed_for (port_at u p).control c d)).mux p)
framed_held u p c d z l h = rw (framed_line u p c d h, arrived u p c false false z l) (arrived_only (port_at u p) c false false)

-- what was read by the port's control bits, whatever it was, has no bit above the port's length
read_cut : (control : ℕ) (cells : List ℕ) → cut control (read_frame (form_of control) cells).c ≡ (read_frame (form_of control) cells).c
unfolding cut span_of
read_cut control cells = mod-eq_of_lt (subst (λ (n : ℕ). (read_frame (form_of control) cells).c < 2 ^ n) (eds8_bits control) (read_below (form_of control) cells))

-- so it is held as it was read, with the marks that were read
pub any_held : (u : Mux) (p : ℕ) (cells : List ℕ) → refusal (of_port u p) ≡ 0 → p < length u.port → AsRead (port_at u p) (read_frame (form_of (port_at u p).control) cells) (port_at (line u p (arrival_of (read_frame (form_of (port_at u p).control) cells))).mux p)
any_held u p cells z l =
    let r = read_frame (form_of (port_at u p).control) cells in
    let o = arrived_only (port_at u p) r.c r.parity r.brk in
    rw (arrived u p r.c r.parity r.brk z l)
    record { only = o; byte = o.byte ∙ read_cut (port_at u p).control cells }
