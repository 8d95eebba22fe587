-- Laws of what the lines do (document 01, of that name): what each signal keeps, and the mark on a replacement.
--   line_refused, line_accepted      a call that is refused, and one that is not
--   line_either                  what holds of the record itself and of the record with its port written holds after the call
--   line_unread                  a unit with another set of special codes does the same (document 02, K5)
--   arrived_only, emptied_only, status_only   and that nothing else of it changes
--   emptied_again                "transmitter empty" does nothing on an empty buffer
-- In proofs/laws/Lines, since they rest on these: line_keeps, line_sound, line_ports, line_port, line_written, arrived, replaced, emptied, changed.
-- Not here: that a refused call answers its number, in unit, laws/Replies; how long a held character waits, in waiting.
-- Assumes nothing.
use Rattle.std.specs.Prelude.{◌≡◌, refl, Bool, true, List, ℕ}
use Rattle.std.proofs.Common.{sym}
use Rattle.words.specs.Length.{cut}
use Rattle.unit.specs.declared.mux.Port.{Port}
use Rattle.unit.specs.declared.mux.Mux.{Mux}
use Rattle.unit.specs.Record.{port_at, with_port}
use Rattle.unit.specs.Reply.{refused, accepted}
use Rattle.unit.specs.Refusals.{refusal, of_port}
use Rattle.unit.specs.laws.Replies.{guarded_refused, guarded_accepted}
use Rattle.unit.proofs.laws.Replies.{either_way}
use Rattle.unit.specs.laws.Set.{chosen, refusal_unread, again, guarded_unread}
use Rattle.lines.specs.declared.signal.Signal.{Signal}
use Rattle.lines.specs.Lines.{arrived_port, emptied_port, status_port, signalled, line}

-- ---- every signal

-- a refused call gives its number and the same record
pub line_refused : (u : Mux) (p : ℕ) (e : Signal) → (refusal (of_port u p) ≡ 0 → ⊥) → line u p e ≡ refused (refusal (of_port u p)) u
unfolding line
line_refused u p e h = guarded_refused _ u _ h

-- a call that is not refused writes its port
pub line_accepted : (u : Mux) (p : ℕ) (e : Signal) → refusal (of_port u p) ≡ 0 → line u p e ≡ accepted 0 (with_port u p (signalled (port_at u p) e))
unfolding line
line_accepted u p e z = guarded_accepted _ u _ z

-- what holds of the record itself and of the record with the port written holds after the call
pub line_either : (C : Mux → Type 0) (u : Mux) (p : ℕ) (e : Signal) → C u → C (with_port u p (signalled (port_at u p) e)) → C (line u p e).mux
unfolding line
line_either C u p e a b = either_way C (refusal (of_port u p)) u _ a b

-- with another set of special codes in the record it does the same, and the set is kept
pub line_unread : (codes : List Bool) (u : Mux) (p : ℕ) (e : Signal) → line (chosen codes u) p e ≡ again codes (line u p e)
unfolding line port_at
line_unread codes u p e =
    rw (refusal_unread codes codes (of_port u p)) (guarded_unread codes (refusal (of_port u p)) u (accepted 0 (with_port u p (signalled (port_at u p) e))))

-- ---- an arrival

-- the character c, cut to the port's length, is held with its own parity and break marks, and with the overload mark where one was held
-- before; nothing else of the port has changed
pub record CharacterOnly (q : Port) (c : ℕ) (parity brk : Bool) (r : Port) : Type 0 where
  pub held : r.held ≡ true
  pub byte : r.ch.byte ≡ cut q.control c
  pub parity_mark_lem : r.ch.parity ≡ parity
  pub break_mark_lem : r.ch.brk ≡ brk
  pub overload_mark : r.ch.overload ≡ q.held
  pub empty : r.empty ≡ q.empty
  pub control : r.control ≡ q.control
  pub devcontrol : r.devcontrol ≡ q.devcontrol
  pub devstatus : r.devstatus ≡ q.devstatus

pub arrived_only : (q : Port) (c : ℕ) (parity brk : Bool) → CharacterOnly q c parity brk (arrived_port q c parity brk)
arrived_only q c parity brk =
    record {
      held = refl;
      byte = refl;
      parity_mark_lem = refl;
      break_mark_lem = refl;
      overload_mark = refl;
      empty = refl;
      control = refl;
      devcontrol = refl;
      devstatus = refl;
    }

-- a character that is held, and carries the overload mark
pub record Marked (q : Port) : Type 0 where
  pub held : q.held ≡ true
  pub mark : q.ch.overload ≡ true

-- ---- "transmitter empty"

-- the buffer is empty, and nothing else of the port has changed
pub record BufferOnly (q r : Port) : Type 0 where
  pub empty : r.empty ≡ true
  pub held : r.held ≡ q.held
  pub same : r.ch ≡ q.ch
  pub control : r.control ≡ q.control
  pub devcontrol : r.devcontrol ≡ q.devcontrol
  pub devstatus : r.devstatus ≡ q.devstatus

pub emptied_only : (q : Port) → BufferOnly q (emptied_port q)
emptied_only q =
    record { empty = refl; held = refl; same = refl; control = refl; devcontrol = refl; devstatus = refl }

-- on an empty buffer "transmitter empty" does nothing
pub emptied_again : (q : Port) → q.empty ≡ true → emptied_port q ≡ q
emptied_again q e = rw (sym e)

-- ---- a Device Status change

-- the line has the level, and nothing else of the port has changed
pub record LineOnly (q : Port) (level : Bool) (r : Port) : Type 0 where
  pub devstatus : r.devstatus ≡ level
  pub held : r.held ≡ q.held
  pub same : r.ch ≡ q.ch
  pub empty : r.empty ≡ q.empty
  pub control : r.control ≡ q.control
  pub devcontrol : r.devcontrol ≡ q.devcontrol

pub status_only : (q : Port) (level : Bool) → LineOnly q level (status_port q level)
status_only q level =
    record { devstatus = refl; held = refl; same = refl; empty = refl; control = refl; devcontrol = refl }
