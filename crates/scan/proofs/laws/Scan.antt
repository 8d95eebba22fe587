-- Laws of one inspection (document 01, of that name). The services are not opened.
--   runs_scans .. kind          which inspection is a turn: a sound running unit with 32,768 words always takes it
--   Does, turn_does             what every turn of a port does, over what it reads
--   Moves, scan_moves           what every inspection that is a turn does: no refusal, its port named, the position one on, the rest kept
--   moves_sound, answer_names   the record is sound again; an answer other than "nothing" names its port
--   inspection_either           what holds of the record itself and of the record after a turn holds after any inspection
--   inspection_runs .. -ports   so the unit runs on or stands, the setting is kept, a sound record stays sound, and the array of ports is as long as it was
--   turn_takes, service_empty   after its turn a port holds nothing; after a service the transmitter is as it was unless a byte was handed to it
--   service_sent, inspection_sent   a byte that was handed over, echo or output, leaves the transmitter not empty
-- Here, and not in specs/laws/Scan, is what rests on other laws of specs/: an edit of a definition counts as refused where nothing in specs/ rests on the
-- law that it breaks.
-- Assumes nothing.
use Rattle.std.specs.Prelude.{◌≡◌, Bool, not, ◌&&◌, List, ◌⊎◌, ℕ, ◌<◌, length}
use Rattle.std.proofs.Math.Path.{refl}
use Rattle.std.proofs.Common.{ap, sym, ◌∙◌, inl, inr, length-set}
use Rattle.std.proofs.Math.Bool.{true, false, and-false}
use Rattle.std.proofs.lemmas.Bool.{false≢true}
use Rattle.std.proofs.Math.Decide.{ℕ_discrete}
use Rattle.ground.specs.Choose.{pick}
use Rattle.interrupt.specs.declared.Service.{Service}
use Rattle.interrupt.specs.declared.Service.TheVariants.{Input, Output}
use Rattle.interrupt.specs.declared.Irq.{Irq}
use Rattle.interrupt.specs.Interrupt.{unsound}
use Rattle.interrupt.specs.laws.Interrupt.{raised_sound}
use Rattle.unit.specs.declared.mux.Setting.{Setting}
use Rattle.unit.specs.declared.mux.Port.{Port}
use Rattle.unit.specs.declared.mux.Mux.{Mux}
use Rattle.unit.specs.declared.reply.Turn.TheVariants.{Served}
use Rattle.unit.specs.Record.{port_at, address_at}
use Rattle.unit.specs.Reply.{counts, Looked}
use Rattle.unit.specs.Refusals.{WORDS, refusal, of_inspection}
use Rattle.unit.specs.Sound.{Sound}
use Rattle.unit.proofs.laws.Sound.{inspection_iff}
use Rattle.unit.specs.laws.Ports.{held_inside, empty_inside, port_same, port_other, port_written}
use Rattle.input.specs.laws.Kept.{kept_length as input-length}
use Rattle.output.specs.laws.Kept.{kept_length as output-length}
use Rattle.scan.specs.Turn.{service, took, irq_after, Turning, served_turn, idle_turn, turn}
use Rattle.scan.specs.Scan.{next_pos, moved, service_turn, scanned, inspection}
use Rattle.scan.specs.laws.Scan.{runs_scans, stopped, inspection_refused, Kind, TurnIs, turn_is, scanned_input, scanned_output, scanned_idle, Does, Moves, moves_sound, service_empty, takes_turn, stands_still, input_turn, output_turn, idle_turn_lem}

-- ---- which inspection is a turn

pub sound_scans : (u : Mux) (m : List ℕ) → Sound u → u.runs ≡ true → length m ≡ WORDS → inspection u m ≡ scanned u m
sound_scans u m s r w = runs_scans u m ((inspection_iff u m).1 (s, w)) r

pub kind : (u : Mux) (m : List ℕ) → Kind u m
kind u m = go (ℕ_discrete (refusal (of_inspection u m)) 0) u.runs refl
  where
    go : Dec (refusal (of_inspection u m) ≡ 0) → (r : Bool) → u.runs ≡ r → Kind u m
    go (yes e) true r = takes_turn e r (runs_scans u m e r)
    go (yes e) false r = stands_still 0 e (stopped u m e r)
    go (no h) r e = stands_still (refusal (of_inspection u m)) refl (inspection_refused u m h)

-- ---- what a turn of a port does

service_length : (k : Service) (codes : List Bool) (m : List ℕ) (a : ℕ) (q : Port) → length (service k codes m a q).memory ≡ length m
unfolding service
service_length Input codes m a q = input-length codes m a q
service_length Output codes m a q = output-length codes m a q

irq_sound : (s : Setting) (p : ℕ) (i : Irq) (k : Service) (r : Bool) → unsound i ≡ false → unsound (irq_after s p i k r) ≡ false
unfolding irq_after pick
irq_sound s p i k true e = raised_sound s.kind k (address_at s p) i e
irq_sound s p i k false e = e

service_counts : (k : Service) → counts (Served k) ≡ true
unfolding counts
service_counts Input = refl
service_counts Output = refl

served_does : (k : Service) (s : Setting) (p : ℕ) (q : Port) (i : Irq) (m : List ℕ) → Does p i m (served_turn k s p q i m)
unfolding served_turn
served_does k s p q i m =
    record { is_turn = service_counts k; names = refl; irq = irq_sound s p i k _; words = service_length k s.special m _ q }

idle_does : (p : ℕ) (q : Port) (i : Irq) (m : List ℕ) → Does p i m (idle_turn p q i m)
unfolding idle_turn counts
idle_does p q i m = record { is_turn = refl; names = refl; irq = λ e. e; words = refl }

-- every turn of a port
pub turn_does : (s : Setting) (p : ℕ) (q : Port) (i : Irq) (m : List ℕ) → Does p i m (turn s p q i m)
turn_does s p q i m = go (turn_is s p q i m)
  where
    go : TurnIs s p q i m → Does p i m (turn s p q i m)
    go (input_turn h e) = rw e (served_does Input s p q i m)
    go (output_turn h f e) = rw e (served_does Output s p q i m)
    go (idle_turn_lem h f e) = rw e (idle_does p q i m)

-- after its turn a port holds nothing: what was held has been taken
turn_leaves : (s : Setting) (p : ℕ) (q : Port) (i : Irq) (m : List ℕ) → (turn s p q i m).turned.port.held ≡ false
unfolding served_turn idle_turn took
turn_leaves s p q i m = go (turn_is s p q i m)
  where
    go : TurnIs s p q i m → (turn s p q i m).turned.port.held ≡ false
    go (input_turn h e) = rw e
    go (output_turn h f e) = rw e h
    go (idle_turn_lem h f e) = rw e h

-- ---- what an inspection that is a turn does

-- every one
pub scan_moves : (u : Mux) (m : List ℕ) → Moves u m (scanned u m)
unfolding scanned next_pos
scan_moves u m =
    let t = turn u.setting u.pos (port_at u u.pos) u.irq m in
    let d = turn_does u.setting u.pos (port_at u u.pos) u.irq m in
    record {
      code = refl;
      is_turn = d.is_turn;
      names = d.names;
      position = refl;
      setting = refl;
      runs = refl;
      clock = refl;
      irq = d.irq;
      others = port_other u (moved u t.turned) u.pos t.turned.port refl;
      ports = length-set u.port u.pos t.turned.port;
      words = d.words;
    }

-- an answer other than "nothing" names the port at the position
pub answer_names : (u : Mux) (m : List ℕ) → counts (inspection u m).reply.answer.turn ≡ true → (inspection u m).reply.answer.port ≡ u.pos
unfolding counts
answer_names u m c = go (kind u m)
  where
    go : Kind u m → (inspection u m).reply.answer.port ≡ u.pos
    go (takes_turn e r t) = rw t (scan_moves u m).names
    go (stands_still k e t) = absurd (false≢true (ap (λ l. counts l.reply.answer.turn) (sym t) ∙ c))

-- ---- what any inspection keeps

-- what holds of the record itself and of the record after a turn holds after the inspection
pub inspection_either : (C : Mux → Type 0) (u : Mux) (m : List ℕ) → C u → C (scanned u m).world.mux → C (inspection u m).world.mux
inspection_either C u m a b = go (kind u m)
  where
    go : Kind u m → C (inspection u m).world.mux
    go (takes_turn e r t) = rw t b
    go (stands_still k e t) = rw t a

-- no inspection stops a unit or sets it going
pub inspection_runs : (u : Mux) (m : List ℕ) → (inspection u m).world.mux.runs ≡ u.runs
inspection_runs u m = inspection_either (λ v. v.runs ≡ u.runs) u m refl (scan_moves u m).runs

-- none changes the setting
pub inspection_setting : (u : Mux) (m : List ℕ) → (inspection u m).world.mux.setting ≡ u.setting
inspection_setting u m = inspection_either (λ v. v.setting ≡ u.setting) u m refl (scan_moves u m).setting

-- a sound record stays sound
pub inspection_sound : (u : Mux) (m : List ℕ) → Sound u → Sound (inspection u m).world.mux
inspection_sound u m s = inspection_either Sound u m s (moves_sound u m (scanned u m) (scan_moves u m) s)

-- the array of ports is as long as it was
pub inspection_ports : (u : Mux) (m : List ℕ) → length (inspection u m).world.mux.port ≡ length u.port
inspection_ports u m = inspection_either (λ v. length v.port ≡ length u.port) u m refl (scan_moves u m).ports

-- ---- the port after its turn

-- after its turn a port holds nothing: what was held has been taken
pub turn_takes : (u : Mux) (m : List ℕ) → (port_at (scanned u m).world.mux u.pos).held ≡ false
unfolding scanned
turn_takes u m = go (port_at u u.pos).held refl
  where
    t : Turning
    t = turn u.setting u.pos (port_at u u.pos) u.irq m

    left : t.turned.port.held ≡ false
    left = turn_leaves u.setting u.pos (port_at u u.pos) u.irq m

    written : (port_at (moved u t.turned) u.pos ≡ t.turned.port) ⊎ (port_at (moved u t.turned) u.pos ≡ port_at u u.pos) → (port_at u u.pos).held ≡ false → (port_at (moved u t.turned) u.pos).held ≡ false
    written (inl g) h = rw g left
    written (inr g) h = rw g h

    go : (held : Bool) → (port_at u u.pos).held ≡ held → (port_at (moved u t.turned) u.pos).held ≡ false
    go true h = rw (port_same u (moved u t.turned) u.pos t.turned.port refl (held_inside u u.pos h)) left
    go false h = written (port_written u (moved u t.turned) u.pos t.turned.port refl) h

-- a service that handed a byte to the transmitter, as an echo or as output, leaves it not empty
pub service_sent : (k : Service) (u : Mux) (m : List ℕ) → u.pos < length u.port → (service_turn k u m).reply.answer.sent ≡ true → (port_at (service_turn k u m).world.mux u.pos).empty ≡ false
service_sent k u m h s = service_empty k u m h ∙ ap (λ (t : Bool). (port_at u u.pos).empty && not t) s ∙ and-false (port_at u u.pos).empty

-- so does an inspection: a port that was served is one of the array's
pub inspection_sent : (u : Mux) (m : List ℕ) → (inspection u m).reply.answer.sent ≡ true → (port_at (inspection u m).world.mux u.pos).empty ≡ false
unfolding idle_turn
inspection_sent u m s = go (kind u m)
  where
    -- the same of a turn that the inspection is
    Full : Looked → Type 0
    Full l = l.reply.answer.sent ≡ true → (port_at l.world.mux u.pos).empty ≡ false

    by : (h e : Bool) → (port_at u u.pos).held ≡ h → (port_at u u.pos).empty ≡ e → Full (scanned u m)
    by true e h f = rw (scanned_input u m h) (service_sent Input u m (held_inside u u.pos h))
    by false true h f = rw (scanned_output u m h f) (service_sent Output u m (empty_inside u u.pos f))
    by false false h f = rw (scanned_idle u m h f) (λ c. absurd (false≢true c))

    go : Kind u m → (port_at (inspection u m).world.mux u.pos).empty ≡ false
    go (takes_turn e r t) = rw t (by (port_at u u.pos).held (port_at u u.pos).empty refl refl (rw t at s))
    go (stands_still k e t) = absurd (false≢true (ap (λ (l : Looked). l.reply.answer.sent) (sym t) ∙ s))
