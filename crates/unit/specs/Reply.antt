-- What calls answer and what they leave (document 01, below the table of refusals, and one inspection).
--   Answer, Reply, Replied, Effect  what an inspection and a call answer, and what a port's service may change, in numbers
--   turn_number                     this paper's number for each case of an inspection's answer
--   counts                         an answer that is a turn's
--   nothing                        the answer of a refusal and of a stopped unit
--   refused, accepted, answered    a refusal, a call on the record, an inspection
--   guarded                        refused by its number, or what the call does
--   Serviced, World, Looked, Outcome   what a service, a call with memory and a call with memory and list leave
--   answer_of .. setup_of           the same of what the code answers: there a byte may be absent, and a refusal is an error
-- Not here: which call is refused with which number, in Refusals.
-- Assumes nothing.
use Rattle.std.specs.Prelude.{Bool, false, not, List, ℕ, eqb, is_some, unwrap_or, Result, Ok, Err}
use Rattle.ground.specs.Choose.{pick}
use Rattle.interrupt.specs.declared.Service.TheVariants.{Input, Output}
use Rattle.unit.specs.declared.mux.Mux.{Mux}
use Rattle.unit.specs.declared.effect.Effect.{Effect as EffectMade}
use Rattle.unit.specs.declared.refusal.Refusal.{Refusal}
use Rattle.unit.specs.declared.reply.Turn.{Turn}
use Rattle.unit.specs.declared.reply.Turn.TheVariants.{Nothing, Idle, Served}
use Rattle.unit.specs.declared.reply.Answer.{Answer as AnswerMade}
use Rattle.unit.specs.declared.reply.Reply.{Reply as ReplyMade}
use Rattle.unit.specs.declared.reply.Replied.{Replied as RepliedMade}
use Rattle.unit.specs.declared.setup.NoUnit.{NoUnit}
use Rattle.unit.specs.Refusals.{number_of}

-- what an inspection answers: what was served, the port, whether a byte was handed to the transmitter and which, and whether an interrupt was raised
pub record Answer : Type 0 where
  pub turn : Turn
  pub port : ℕ
  pub sent : Bool
  pub byte : ℕ
  pub raised : Bool

-- what a call answers: the refusal number or 0; the word of DIA and DIAS; an inspection's answer; the inspections that a sweep made and the
-- list places that it used. What a call has not is 0 or "nothing".
pub record Reply : Type 0 where
  pub code : ℕ
  pub value : ℕ
  pub answer : Answer
  pub made : ℕ
  pub used : ℕ

-- the reply and the record after the call
pub record Replied : Type 0 where
  pub reply : Reply
  pub mux : Mux

-- what a port's service may change beside the memory: whether a byte is handed to the transmitter and which, whether an interrupt is raised, the
-- control bits and the Device Control level after it
pub record Effect : Type 0 where
  pub sent : Bool
  pub byte : ℕ
  pub raised : Bool
  pub control : ℕ
  pub devcontrol : Bool

-- the number of what was served, which document 01 leaves open
abbrev pub turn_number : Turn → ℕ
turn_number Nothing = 0
turn_number Idle = 1
turn_number (Served Input) = 2
turn_number (Served Output) = 3

-- an answer that is a turn's: any but "nothing"
unfoldable pub counts : Turn → Bool
counts t = not (eqb (turn_number t) 0)

-- the answer "nothing": a refusal, a stopped unit, or a call that is no inspection
abbrev pub nothing : Answer
nothing = record { turn = Nothing; port = 0; sent = false; byte = 0; raised = false }

-- a refusal: its number, no further result, the same record
abbrev pub refused : ℕ → Mux → Replied
refused k u = record { reply = record { code = k; value = 0; answer = nothing; made = 0; used = 0 }; mux = u }

-- a call on the record alone: the further result and the record
abbrev pub accepted : ℕ → Mux → Replied
accepted v u = record { reply = record { code = 0; value = v; answer = nothing; made = 0; used = 0 }; mux = u }

-- an inspection: its answer and the record
abbrev pub answered : Answer → Mux → Replied
answered a u = record { reply = record { code = 0; value = 0; answer = a; made = 0; used = 0 }; mux = u }

-- a call on the record: refused by its number, or what it does
unfoldable pub guarded : ℕ → Mux → Replied → Replied
guarded k u r = pick (eqb k 0) r (refused k u)

-- what a port's service leaves: its effect, and the memory
pub record Serviced : Type 0 where
  pub effect : Effect
  pub memory : List ℕ

abbrev pub serviced : Effect → List ℕ → Serviced
serviced e m = record { effect = e; memory = m }

-- the record and the host's memory
pub record World : Type 0 where
  pub mux : Mux
  pub memory : List ℕ

abbrev pub world : Mux → List ℕ → World
world u m = record { mux = u; memory = m }

-- what an inspection leaves: the reply, the record and the memory
pub record Looked : Type 0 where
  pub reply : Reply
  pub world : World

abbrev pub looked : Replied → List ℕ → Looked
looked r m = record { reply = r.reply; world = world r.mux m }

-- what any call leaves: the reply, the record, the memory and the list
pub record Outcome : Type 0 where
  pub reply : Reply
  pub world : World
  pub list : List ℕ

abbrev pub outcome : Replied → List ℕ → List ℕ → Outcome
outcome r m xs = record { reply = r.reply; world = world r.mux m; list = xs }

-- ---- what the code answers, as the records above have it

-- a byte that may be absent: whether there is one, and the byte or 0
abbrev pub effect_of : EffectMade → Effect
effect_of e =
    record {
      sent = is_some e.sent;
      byte = unwrap_or e.sent 0;
      raised = e.raised;
      control = e.control;
      devcontrol = e.devcontrol;
    }

abbrev pub answer_of : AnswerMade → Answer
answer_of a =
    record { turn = a.turn; port = a.port; sent = is_some a.sent; byte = unwrap_or a.sent 0; raised = a.raised }

-- a call that is not refused: code 0
abbrev pub taken : ReplyMade → Reply
taken r = record { code = 0; value = r.value; answer = answer_of r.answer; made = r.made; used = r.used }

-- a call that is refused: the number, and no further result
abbrev pub failed : Refusal → Reply
failed e = record { code = number_of e; value = 0; answer = nothing; made = 0; used = 0 }

-- a reply, or a refusal
abbrev pub reply_of : Result ReplyMade Refusal → Reply
reply_of (Ok r) = taken r
reply_of (Err e) = failed e

-- the reply and the record, or a refusal of a call on that record
abbrev pub replied_of : Mux → Result RepliedMade Refusal → Replied
replied_of u (Ok r) = record { reply = taken r.reply; mux = r.mux }
replied_of u (Err e) = record { reply = failed e; mux = u }

-- the reply and the record, or a refused setup's number and record
abbrev pub setup_of : Result RepliedMade NoUnit → Replied
setup_of (Ok r) = record { reply = taken r.reply; mux = r.mux }
setup_of (Err e) = record { reply = failed e.refusal; mux = e.mux }
