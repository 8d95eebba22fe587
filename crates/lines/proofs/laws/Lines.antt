-- Laws of what the lines do (document 01, of that name): what each signal keeps, and the mark on a replacement.
--   line_keeps, line_sound       every other port and the rest of the record are as they were; a sound record stays sound
--   line_ports                   the array of ports is as long as it was
--   line_port, line_written      the port that the signal came to
--   arrived, emptied, changed    the port after an arrival, after "transmitter empty" and after a Device Status change
--   replaced                     a character that replaces a held one, marked or not, is held and carries the overload mark
-- Here, and not in specs/laws/Lines, is what rests on other laws of specs/: an edit of a definition counts as refused where nothing in specs/ rests on the
-- law that it breaks.
-- Assumes nothing.
use Rattle.std.specs.Prelude.{◌≡◌, refl, Bool, true, ◌⊎◌, ℕ, ◌<◌, length}
use Rattle.std.proofs.Common.{◌∙◌, inr, length-set}
use Rattle.unit.specs.declared.mux.Mux.{Mux}
use Rattle.unit.specs.Record.{port_at}
use Rattle.unit.specs.Refusals.{refusal, of_port}
use Rattle.unit.specs.Sound.{Sound}
use Rattle.unit.specs.laws.Sound.{sound_with}
use Rattle.unit.specs.laws.Ports.{OnlyPort, only_port, held_inside, port_same, port_written}
use Rattle.lines.specs.declared.signal.Signal.{Signal}
use Rattle.lines.specs.declared.signal.Signal.TheVariants.{Arrival, TransmitterEmpty, DeviceStatus}
use Rattle.lines.specs.Lines.{arrived_port, emptied_port, status_port, signalled, line}
use Rattle.lines.specs.laws.Lines.{line_accepted, line_either, arrived_only, Marked}

-- ---- every signal

-- setting, position, unit, clock, interrupt side and every other port are as they were
pub line_keeps : (u : Mux) (p : ℕ) (e : Signal) → OnlyPort p u (line u p e).mux
line_keeps u p e = line_either (OnlyPort p u) u p e same (only_port u p _)
  where
    same : OnlyPort p u u
    same = record { setting = refl; pos = refl; runs = refl; clock = refl; irq = refl; others = λ r h. refl }

-- a sound record stays sound
pub line_sound : (u : Mux) (p : ℕ) (e : Signal) → Sound u → Sound (line u p e).mux
line_sound u p e s = line_either Sound u p e s (sound_with u _ refl s.position (λ i. i) s)

-- the array of ports is as long as it was
pub line_ports : (u : Mux) (p : ℕ) (e : Signal) → length (line u p e).mux.port ≡ length u.port
line_ports u p e = line_either (λ v. length v.port ≡ length u.port) u p e refl (length-set u.port p _)

-- the port p after a signal that is not refused
pub line_port : (u : Mux) (p : ℕ) (e : Signal) → refusal (of_port u p) ≡ 0 → p < length u.port → port_at (line u p e).mux p ≡ signalled (port_at u p) e
line_port u p e z h = rw (line_accepted u p e z) (port_same u _ p _ refl h)

-- the port p after a signal: what the signal makes of it, or as it was
pub line_written : (u : Mux) (p : ℕ) (e : Signal) → (port_at (line u p e).mux p ≡ signalled (port_at u p) e) ⊎ (port_at (line u p e).mux p ≡ port_at u p)
line_written u p e =
    line_either (λ v. (port_at v p ≡ signalled (port_at u p) e) ⊎ (port_at v p ≡ port_at u p)) u p e (inr refl) (port_written u _ p _ refl)

-- ---- an arrival

-- an arrival that is not refused: its character, cut to the port's length, is held with its own marks
pub arrived : (u : Mux) (p c : ℕ) (parity brk : Bool) → refusal (of_port u p) ≡ 0 → p < length u.port → port_at (line u p (Arrival c parity brk)).mux p ≡ arrived_port (port_at u p) c parity brk
unfolding signalled
arrived u p c parity brk z h = line_port u p (Arrival c parity brk) z h

-- a character that arrives where one is held replaces it and carries the mark
pub replaced : (u : Mux) (p c : ℕ) (parity brk : Bool) → (port_at u p).held ≡ true → refusal (of_port u p) ≡ 0 → Marked (port_at (line u p (Arrival c parity brk)).mux p)
replaced u p c parity brk k z =
    let only = arrived_only (port_at u p) c parity brk in
    rw (arrived u p c parity brk z (held_inside u p k)) (record { held = only.held; mark = only.overload_mark ∙ k })

-- ---- "transmitter empty"

-- "transmitter empty" that is not refused
pub emptied : (u : Mux) (p : ℕ) → refusal (of_port u p) ≡ 0 → p < length u.port → port_at (line u p TransmitterEmpty).mux p ≡ emptied_port (port_at u p)
unfolding signalled
emptied u p z h = line_port u p TransmitterEmpty z h

-- ---- a Device Status change

-- a Device Status change that is not refused
pub changed : (u : Mux) (p : ℕ) (level : Bool) → refusal (of_port u p) ≡ 0 → p < length u.port → port_at (line u p (DeviceStatus level)).mux p ≡ status_port (port_at u p) level
unfolding signalled
changed u p level z h = line_port u p (DeviceStatus level) z h
