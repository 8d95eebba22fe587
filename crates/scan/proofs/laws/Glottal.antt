-- The glottal stop at an inspection (document 01, one inspection, and Input 4, 5 and 6; document 02, K5): the laws of input, carried to the record.
--   glottal_seen  every such inspection leaves that, if the unit's set calls it special or it has an error; of the turns before it nothing is asked
--   glottal_seen_marked   one that replaced a held character: the same, with the overload code, by any set
--   Typed, glottal_typed  if the set calls it ordinary and it has no error, it is kept with its word, as a letter is
-- Here, and not in specs/laws/Glottal, is what rests on other laws of specs/: an edit of a definition counts as refused where nothing in specs/ rests on the
-- law that it breaks.
-- Assumes nothing.
use Rattle.std.specs.Prelude.{◌≡◌, refl, Bool, true, false, not, ◌&&◌, List, ◌≢◌, ℕ, ◌+◌, ◌/◌}
use Rattle.std.proofs.Common.{ap, ◌∙◌, subst, inr, arith}
use Rattle.std.proofs.Math.Bool.{and-true}
use Rattle.ground.specs.Choose.{pick}
use Rattle.interrupt.specs.declared.Service.TheVariants.{Input}
use Rattle.unit.specs.declared.mux.Mux.{Mux}
use Rattle.unit.specs.Record.{port_at, block_at}
use Rattle.unit.specs.laws.Sound.{Placed}
use Rattle.unit.proofs.laws.Sound.{block_inside}
use Rattle.unit.specs.laws.Ports.{held_inside}
use Rattle.words.specs.Codes.{at_icw, flag_none, flag_overload}
use Rattle.words.specs.Special.{special_in}
use Rattle.input.specs.laws.Kept.{next_of}
use Rattle.input.specs.laws.Glottal.{Apart, marked_code}
use Rattle.input.proofs.laws.Glottal.{glottal_stop, glottal_stop_kept}
use Rattle.scan.specs.Turn.{service, served_turn, irq_after}
use Rattle.scan.specs.Scan.{service_turn, inspection}
use Rattle.scan.specs.laws.Scan.{scanned_input, service_empty}
use Rattle.scan.proofs.laws.Scan.{sound_scans, scan_moves, turn_takes}
use Rattle.scan.specs.laws.Glottal.{Waits, Delivered, Typed}

-- the block of the port whose turn it is lies in the memory
placed : (u : Mux) (m : List ℕ) (code : ℕ) → Waits u m u.pos code → Placed m (block_at u.setting u.pos)
placed u m code h = record { words = h.words; inside = block_inside u.setting u.pos h.sound.setting h.sound.position }

-- the turn of the port at the position, by what its service does
at_position : (u : Mux) (m : List ℕ) (code : ℕ) → Apart u.setting.special code → Waits u m u.pos code → Delivered u m u.pos code (service_turn Input u m)
unfolding service_turn served_turn service irq_after pick
at_position u m code s h =
    let p = u.pos in
    let r = glottal_stop u.setting.special m (block_at u.setting p) (port_at u p) code (placed u m code h) h.mode s h.bar in
    let e = scanned_input u m h.held in
    record {
      served = refl;
      names = refl;
      no_echo = r.no_echo;
      one_interrupt = r.one_interrupt;
      address = rw r.one_interrupt;
      told = r.told;
      taken = rw e at (turn_takes u m);
      transmitter = service_empty Input u m (held_inside u p h.held) ∙ ap (λ (t : Bool). (port_at u p).empty && not t) r.no_echo ∙ and-true (port_at u p).empty;
      moves = rw e at (scan_moves u m);
    }

-- an inspection of such a unit, whatever port had the turn before
pub glottal_seen : (u : Mux) (m : List ℕ) (p code : ℕ) → Apart u.setting.special code → Waits u m p code → Delivered u m p code (inspection u m)
glottal_seen u m p code s h = subst (λ (r : ℕ). Waits u m r code → Delivered u m r code (inspection u m)) h.turn here h
  where
    here : Waits u m u.pos code → Delivered u m u.pos code (inspection u m)
    here w = rw (sound_scans u m w.sound w.runs w.words, scanned_input u m w.held) (at_position u m code s w)

-- one that replaced a held character has the error code overload
pub glottal_seen_marked : (u : Mux) (m : List ℕ) (p code : ℕ) → Waits u m p code → (port_at u p).ch.overload ≡ true → Delivered u m p flag_overload (inspection u m)
glottal_seen_marked u m p code h o = let e = marked_code (port_at u p) code h.bar o in rw e at (glottal_seen u m p code (inr (λ n. omega (arith, e, n))) h)

-- ---- kept with its word

-- the turn of the port at the position
typed_there : (u : Mux) (m : List ℕ) → special_in u.setting.special 0o174 ≡ false → next_of m (block_at u.setting u.pos) / 2 ≢ block_at u.setting u.pos + at_icw → Waits u m u.pos flag_none → Typed u m u.pos (service_turn Input u m)
unfolding service_turn served_turn service
typed_there u m s n h =
    let p = u.pos in
    let r = glottal_stop_kept u.setting.special m (block_at u.setting p) (port_at u p) (placed u m flag_none h) h.mode s h.bar n in
    let e = scanned_input u m h.held in
    record {
      served = refl;
      names = refl;
      echo = r.stored.echo;
      interrupt = r.stored.interrupt;
      irq = ap (irq_after u.setting p u.irq Input) r.stored.interrupt;
      memory = refl;
      kept = r;
      taken = rw e at (turn_takes u m);
      transmitter = service_empty Input u m (held_inside u p h.held);
      moves = rw e at (scan_moves u m);
    }

-- an inspection of a unit whose set calls the glottal stop ordinary, where it has no error and its place is not its port's ICW
pub glottal_typed : (u : Mux) (m : List ℕ) (p : ℕ) → special_in u.setting.special 0o174 ≡ false → next_of m (block_at u.setting p) / 2 ≢ block_at u.setting p + at_icw → Waits u m p flag_none → Typed u m p (inspection u m)
glottal_typed u m p s n h = subst (λ (r : ℕ). next_of m (block_at u.setting r) / 2 ≢ block_at u.setting r + at_icw → Waits u m r flag_none → Typed u m r (inspection u m)) h.turn here n h
  where
    here : next_of m (block_at u.setting u.pos) / 2 ≢ block_at u.setting u.pos + at_icw → Waits u m u.pos flag_none → Typed u m u.pos (inspection u m)
    here k w = rw (sound_scans u m w.sound w.runs w.words, scanned_input u m w.held) (typed_there u m s k w)
