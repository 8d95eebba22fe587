-- What the code answers is settled by what the definitions say of it: two answers that look the same are the same.
--   number_one, code_one           of refusals, and of a call's refusal or none
--   effect_one, answer_one         of what a service may change, and of an inspection's answer
--   reply_one, replied_one         of what a call answers, and of the answer with the record
--   setup_one                      of what setup answers
-- Not here: the views themselves, in specs/Refusals and specs/Reply.
-- Assumes nothing.
use Rattle.std.specs.Prelude.{◌≡◌, refl, Bool, ℕ, eqb, Option, Some, None, is_some, unwrap_or, Result, Ok, Err}
use Rattle.std.proofs.Common.{ap, sym, ◌∙◌}
use Rattle.ground.specs.Choose.{pick}
use Rattle.unit.specs.declared.mux.Mux.{Mux}
use Rattle.unit.specs.declared.effect.Effect.{Effect as EffectMade}
use Rattle.unit.specs.declared.refusal.Refusal.{Refusal}
use Rattle.unit.specs.declared.refusal.Refusal.TheVariants.{BadBlock, BadPorts, Misaligned, Crosses, Unsound, BadMemory, NoPort, TooMany, ShortList, TooHigh, BadLocation}
use Rattle.unit.specs.declared.reply.Answer.{Answer as AnswerMade}
use Rattle.unit.specs.declared.reply.Reply.{Reply as ReplyMade}
use Rattle.unit.specs.declared.reply.Replied.{Replied as RepliedMade}
use Rattle.unit.specs.declared.setup.NoUnit.{NoUnit}
use Rattle.unit.specs.Refusals.{number_of, code_of}
use Rattle.unit.specs.Reply.{Effect, Answer, Reply, Replied, effect_of, answer_of, failed, reply_of, replied_of, setup_of}

-- ---- each view has a way back

-- the refusal of a number
unfoldable pub refusal_of : ℕ → Refusal
refusal_of k =
    pick (eqb k 1) BadBlock
    (pick (eqb k 2) BadPorts
    (pick (eqb k 3) Misaligned
    (pick (eqb k 4) Crosses
    (pick (eqb k 6) Unsound
    (pick (eqb k 7) BadMemory
    (pick (eqb k 8) NoPort
    (pick (eqb k 9) TooMany
    (pick (eqb k 10) ShortList
    (pick (eqb k 11) TooHigh BadLocation)))))))))

pub number_back : (r : Refusal) → refusal_of (number_of r) ≡ r
unfolding refusal_of pick
number_back = elim [ BadBlock ↦ refl | BadPorts ↦ refl | Misaligned ↦ refl | Crosses ↦ refl | Unsound ↦ refl | BadMemory ↦ refl | NoPort ↦ refl | TooMany ↦ refl | ShortList ↦ refl | TooHigh ↦ refl | BadLocation ↦ refl ]

-- two refusals of one number are one
pub number_one : (r s : Refusal) → number_of r ≡ number_of s → r ≡ s
number_one r s e = sym (number_back r) ∙ ap refusal_of e ∙ number_back s

-- what a check found, by its number
unfoldable pub found_of : ℕ → Result (Unit {0}) Refusal
found_of k = pick (eqb k 0) (Ok tt) (Err (refusal_of k))

pub code_back : (r : Result (Unit {0}) Refusal) → found_of (code_of r) ≡ r
unfolding found_of refusal_of pick
code_back (Ok found) = refl
code_back (Err BadBlock) = refl
code_back (Err BadPorts) = refl
code_back (Err Misaligned) = refl
code_back (Err Crosses) = refl
code_back (Err Unsound) = refl
code_back (Err BadMemory) = refl
code_back (Err NoPort) = refl
code_back (Err TooMany) = refl
code_back (Err ShortList) = refl
code_back (Err TooHigh) = refl
code_back (Err BadLocation) = refl

-- what two checks found is one, where their numbers are
pub code_one : (r s : Result (Unit {0}) Refusal) → code_of r ≡ code_of s → r ≡ s
code_one r s e = sym (code_back r) ∙ ap found_of e ∙ code_back s

-- a byte that may be absent
unfoldable pub byte_of : Bool → ℕ → Option ℕ
byte_of on b = pick on (Some b) None

pub byte_back : (o : Option ℕ) → byte_of (is_some o) (unwrap_or o 0) ≡ o
unfolding byte_of pick
byte_back None = refl
byte_back (Some b) = refl

-- the effect, and the answer, of a record of the definitions
abbrev pub effect_made : Effect → EffectMade
effect_made e = record { sent = byte_of e.sent e.byte; raised = e.raised; control = e.control; devcontrol = e.devcontrol }

abbrev pub answer_made : Answer → AnswerMade
answer_made a = record { turn = a.turn; port = a.port; sent = byte_of a.sent a.byte; raised = a.raised }

pub effect_back : (e : EffectMade) → effect_made (effect_of e) ≡ e
effect_back e = ap (λ b. record { sent = b; raised = e.raised; control = e.control; devcontrol = e.devcontrol }) (byte_back e.sent)

pub answer_back : (a : AnswerMade) → answer_made (answer_of a) ≡ a
answer_back a = ap (λ b. record { turn = a.turn; port = a.port; sent = b; raised = a.raised }) (byte_back a.sent)

-- two effects that look the same are one
pub effect_one : (d e : EffectMade) → effect_of d ≡ effect_of e → d ≡ e
effect_one d e h = sym (effect_back d) ∙ ap effect_made h ∙ effect_back e

-- two answers of inspections that look the same are one
pub answer_one : (a b : AnswerMade) → answer_of a ≡ answer_of b → a ≡ b
answer_one a b h = sym (answer_back a) ∙ ap answer_made h ∙ answer_back b

-- the reply of a record of the definitions: a refusal where it has a number
unfoldable pub reply_made : Reply → Result ReplyMade Refusal
reply_made r =
    pick (eqb r.code 0)
    (Ok (record { value = r.value; answer = answer_made r.answer; made = r.made; used = r.used }))
    (Err (refusal_of r.code))

pub reply_back : (r : Result ReplyMade Refusal) → reply_made (reply_of r) ≡ r
unfolding reply_made refusal_of pick
reply_back (Ok r) = ap (λ a. Ok (record { value = r.value; answer = a; made = r.made; used = r.used })) (answer_back r.answer)
reply_back (Err BadBlock) = refl
reply_back (Err BadPorts) = refl
reply_back (Err Misaligned) = refl
reply_back (Err Crosses) = refl
reply_back (Err Unsound) = refl
reply_back (Err BadMemory) = refl
reply_back (Err NoPort) = refl
reply_back (Err TooMany) = refl
reply_back (Err ShortList) = refl
reply_back (Err TooHigh) = refl
reply_back (Err BadLocation) = refl

-- two replies that look the same are one
pub reply_one : (r s : Result ReplyMade Refusal) → reply_of r ≡ reply_of s → r ≡ s
reply_one r s h = sym (reply_back r) ∙ ap reply_made h ∙ reply_back s

-- the reply and the record, of a record of the definitions
unfoldable pub replied_made : Replied → Result RepliedMade Refusal
replied_made r =
    pick (eqb r.reply.code 0)
    (Ok (record { reply = record { value = r.reply.value; answer = answer_made r.reply.answer; made = r.reply.made; used = r.reply.used }; mux = r.mux }))
    (Err (refusal_of r.reply.code))

pub replied_back : (u : Mux) (r : Result RepliedMade Refusal) → replied_made (replied_of u r) ≡ r
unfolding replied_made refusal_of pick
replied_back u (Ok r) = ap (λ a. Ok (record { reply = record { value = r.reply.value; answer = a; made = r.reply.made; used = r.reply.used }; mux = r.mux })) (answer_back r.reply.answer)
replied_back u (Err BadBlock) = refl
replied_back u (Err BadPorts) = refl
replied_back u (Err Misaligned) = refl
replied_back u (Err Crosses) = refl
replied_back u (Err Unsound) = refl
replied_back u (Err BadMemory) = refl
replied_back u (Err NoPort) = refl
replied_back u (Err TooMany) = refl
replied_back u (Err ShortList) = refl
replied_back u (Err TooHigh) = refl
replied_back u (Err BadLocation) = refl

-- two answers to a call on one record that look the same are one
pub replied_one : (u : Mux) (r s : Result RepliedMade Refusal) → replied_of u r ≡ replied_of u s → r ≡ s
replied_one u r s h = sym (replied_back u r) ∙ ap replied_made h ∙ replied_back u s

-- what setup answers, of a record of the definitions
unfoldable pub setup_made : Replied → Result RepliedMade NoUnit
setup_made r =
    pick (eqb r.reply.code 0)
    (Ok (record { reply = record { value = r.reply.value; answer = answer_made r.reply.answer; made = r.reply.made; used = r.reply.used }; mux = r.mux }))
    (Err (record { refusal = refusal_of r.reply.code; mux = r.mux }))

setup_failed : (u : Mux) (k : Refusal) → setup_made (record { reply = failed k; mux = u }) ≡ Err (record { refusal = k; mux = u })
unfolding setup_made refusal_of pick
setup_failed u BadBlock = refl
setup_failed u BadPorts = refl
setup_failed u Misaligned = refl
setup_failed u Crosses = refl
setup_failed u Unsound = refl
setup_failed u BadMemory = refl
setup_failed u NoPort = refl
setup_failed u TooMany = refl
setup_failed u ShortList = refl
setup_failed u TooHigh = refl
setup_failed u BadLocation = refl

pub setup_back : (r : Result RepliedMade NoUnit) → setup_made (setup_of r) ≡ r
unfolding setup_made pick
setup_back (Ok r) = ap (λ a. Ok (record { reply = record { value = r.reply.value; answer = a; made = r.reply.made; used = r.reply.used }; mux = r.mux })) (answer_back r.reply.answer)
setup_back (Err e) = setup_failed e.mux e.refusal

-- two answers of setup that look the same are one: a refusal and its record too
pub setup_one : (r s : Result RepliedMade NoUnit) → setup_of r ≡ setup_of s → r ≡ s
setup_one r s h = sym (setup_back r) ∙ ap setup_made h ∙ setup_back s
