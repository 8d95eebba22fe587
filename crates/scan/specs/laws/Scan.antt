-- Laws of one inspection (document 01, of that name). The services are not opened.
--   runs_scans .. kind          which inspection is a turn: a sound running unit with 32,768 words always takes it
--   scanned_input .. -idle      a held character means input; else an empty transmitter means output; else nothing is done
--   served_says, served_names, idle_says   what a turn that served answers, and one that serves nothing
--   Does, turn_does             what every turn of a port does, over what it reads
--   Moves, scan_moves           what every inspection that is a turn does: no refusal, its port named, the position one on, the rest kept
--   moves_sound, answer_names   the record is sound again; an answer other than "nothing" names its port
--   inspection_runs .. -ports   so the unit runs on or stands, the setting is kept, a sound record stays sound, and the array of ports is as long as it was
--   turn_takes, service_empty   after its turn a port holds nothing; after a service the transmitter is as it was unless a byte was handed to it
-- In proofs/laws/Scan, since they rest on these: sound_scans, kind, turn_does, scan_moves, answer_names, inspection_either, inspection_runs,
-- inspection_setting, inspection_sound, inspection_ports, turn_takes, service_sent, inspection_sent.
-- Not here: what a turn is, in specs/Turn; what a service does to the memory, in laws/Kept of input and of output; bounds on waiting, in waiting.
-- Assumes nothing.
use Rattle.std.specs.Prelude.{◌≡◌, Bool, not, ◌&&◌, List, ℕ, ◌+◌, ◌%◌, ◌<◌, length}
use Rattle.std.proofs.Math.Path.{refl}
use Rattle.std.proofs.Common.{ap, mod-lt, ne_eqb}
use Rattle.std.proofs.Math.Bool.{true, false}
use Rattle.ground.specs.Choose.{pick}
use Rattle.interrupt.specs.declared.Service.{Service}
use Rattle.interrupt.specs.declared.Service.TheVariants.{Input, Output}
use Rattle.interrupt.specs.declared.Irq.{Irq}
use Rattle.interrupt.specs.Interrupt.{unsound}
use Rattle.unit.specs.declared.mux.Setting.{Setting}
use Rattle.unit.specs.declared.mux.Port.{Port}
use Rattle.unit.specs.declared.mux.Mux.{Mux}
use Rattle.unit.specs.declared.reply.Turn.TheVariants.{Idle, Served}
use Rattle.unit.specs.Record.{port_at}
use Rattle.unit.specs.Reply.{counts, refused, Looked, looked}
use Rattle.unit.specs.Refusals.{refusal, of_inspection}
use Rattle.unit.specs.Sound.{Sound}
use Rattle.unit.specs.laws.Sound.{sound_with}
use Rattle.unit.specs.laws.Ports.{port_same}
use Rattle.scan.specs.Turn.{took, Turning, served_turn, idle_turn, turn}
use Rattle.scan.specs.Scan.{looked_at, service_turn, scanned, inspection}

-- ---- which inspection is a turn

-- a sound running unit with a memory of 32,768 words always takes its turn
pub runs_scans : (u : Mux) (m : List ℕ) → refusal (of_inspection u m) ≡ 0 → u.runs ≡ true → inspection u m ≡ scanned u m
unfolding inspection pick
runs_scans u m e r = rw (e, r)

-- a stopped unit answers "nothing" and changes nothing
pub stopped : (u : Mux) (m : List ℕ) → refusal (of_inspection u m) ≡ 0 → u.runs ≡ false → inspection u m ≡ looked (refused 0 u) m
unfolding inspection pick
stopped u m e r = rw (e, r)

-- a refused inspection answers its number and "nothing", and changes nothing
pub inspection_refused : (u : Mux) (m : List ℕ) → (refusal (of_inspection u m) ≡ 0 → ⊥) → inspection u m ≡ looked (refused (refusal (of_inspection u m)) u) m
unfolding inspection pick
inspection_refused u m h = rw (ne_eqb (refusal (of_inspection u m)) 0 h)

-- an inspection is a turn, or it changes nothing and answers "nothing"
pub data Kind (u : Mux) (m : List ℕ) : Type 0 where
  takes_turn : refusal (of_inspection u m) ≡ 0 → u.runs ≡ true → inspection u m ≡ scanned u m → Kind u m
  stands_still : (k : ℕ) → refusal (of_inspection u m) ≡ k → inspection u m ≡ looked (refused k u) m → Kind u m

-- ---- which turn it is

module _ (s : Setting) (p : ℕ) (q : Port) (i : Irq) (m : List ℕ) where
  -- a turn is that of a service or an idle one, and how the port stood
  pub data TurnIs : Type 0 where
    input_turn : q.held ≡ true → turn s p q i m ≡ served_turn Input s p q i m → TurnIs
    output_turn : q.held ≡ false → q.empty ≡ true → turn s p q i m ≡ served_turn Output s p q i m → TurnIs
    idle_turn_lem : q.held ≡ false → q.empty ≡ false → turn s p q i m ≡ idle_turn p q i m → TurnIs

  pub turn_is : TurnIs
  unfolding turn pick
  turn_is = go q.held refl q.empty refl
    where
      go : (h : Bool) → q.held ≡ h → (e : Bool) → q.empty ≡ e → TurnIs
      go true h e f = input_turn h (rw h)
      go false h true f = output_turn h f (rw (h, f))
      go false h false f = idle_turn_lem h f (rw (h, f))

-- a held character means input
pub scanned_input : (u : Mux) (m : List ℕ) → (port_at u u.pos).held ≡ true → scanned u m ≡ service_turn Input u m
unfolding scanned service_turn turn pick
scanned_input u m h = rw h

-- otherwise an empty transmitter means output
pub scanned_output : (u : Mux) (m : List ℕ) → (port_at u u.pos).held ≡ false → (port_at u u.pos).empty ≡ true → scanned u m ≡ service_turn Output u m
unfolding scanned service_turn turn pick
scanned_output u m h e = rw (h, e)

-- otherwise nothing is done
pub scanned_idle : (u : Mux) (m : List ℕ) → (port_at u u.pos).held ≡ false → (port_at u u.pos).empty ≡ false → scanned u m ≡ looked_at u (idle_turn u.pos (port_at u u.pos) u.irq m)
unfolding scanned turn pick
scanned_idle u m h e = rw (h, e)

-- what a turn that served answers
pub served_says : (k : Service) (u : Mux) (m : List ℕ) → (service_turn k u m).reply.answer.turn ≡ Served k
unfolding service_turn served_turn
served_says k u m = refl

pub served_names : (k : Service) (u : Mux) (m : List ℕ) → (service_turn k u m).reply.answer.port ≡ u.pos
unfolding service_turn served_turn
served_names k u m = refl

-- what a turn that serves nothing answers
pub idle_says : (p : ℕ) (q : Port) (i : Irq) (m : List ℕ) → (idle_turn p q i m).turned.answer.turn ≡ Idle
unfolding idle_turn
idle_says p q i m = refl

-- ---- what a turn of a port does

-- it is a turn's answer and names the port; it leaves a sound interrupt side sound, and the memory as long as it was
pub record Does (p : ℕ) (i : Irq) (m : List ℕ) (t : Turning) : Type 0 where
  pub is_turn : counts t.turned.answer.turn ≡ true
  pub names : t.turned.answer.port ≡ p
  pub irq : unsound i ≡ false → unsound t.turned.irq ≡ false
  pub words : length t.memory ≡ length m

-- ---- what an inspection that is a turn does

-- no refusal; the port at the position named; the position one on; setting, unit, clock and every other port as they were;
-- the memory as long as it was
pub record Moves (u : Mux) (m : List ℕ) (l : Looked) : Type 0 where
  pub code : l.reply.code ≡ 0
  pub is_turn : counts l.reply.answer.turn ≡ true
  pub names : l.reply.answer.port ≡ u.pos
  pub position : l.world.mux.pos ≡ (u.pos + 1) % u.setting.ports
  pub setting : l.world.mux.setting ≡ u.setting
  pub runs : l.world.mux.runs ≡ u.runs
  pub clock : l.world.mux.clock ≡ u.clock
  pub irq : unsound u.irq ≡ false → unsound l.world.mux.irq ≡ false
  pub others : (r : ℕ) → (r ≡ u.pos → ⊥) → port_at l.world.mux r ≡ port_at u r
  pub ports : length l.world.mux.port ≡ length u.port
  pub words : length l.world.memory ≡ length m

-- the record is sound again
pub moves_sound : (u : Mux) (m : List ℕ) (l : Looked) → Moves u m l → Sound u → Sound l.world.mux
moves_sound u m l t s =
    sound_with u l.world.mux t.setting (rw (t.position, ap (λ x. x.ports) t.setting) (mod-lt (u.pos + 1) s.setting.size.some_port)) t.irq s

-- ---- the port after its turn

-- after a service the transmitter is empty if it was and no byte was handed to it
pub service_empty : (k : Service) (u : Mux) (m : List ℕ) → u.pos < length u.port → (port_at (service_turn k u m).world.mux u.pos).empty ≡ ((port_at u u.pos).empty && not (service_turn k u m).reply.answer.sent)
unfolding service_turn served_turn took
service_empty Input u m h = ap (λ x. x.empty) (port_same u _ u.pos _ refl h)
service_empty Output u m h = ap (λ x. x.empty) (port_same u _ u.pos _ refl h)
