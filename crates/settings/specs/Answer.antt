-- What a caretaker is answered (document 02, K1 and K7; D48, D62).
--   Answer, answer_to   the answer to a line
--   Says               what the code's answer says of it
--   taken              the line after one byte of what is typed: the end of a line begins the next
-- Not here: the sentences, which the stored output and the caretaker's page hold; what the text that was read leaves of a blank line, in Text of the crate driver; what follows, in laws/.
-- Assumes nothing.
use Rattle.std.specs.Prelude.{◌≡◌, Bool, true, false, ℕ, eqb}
use Rattle.ground.specs.Choose.{pick}
use Rattle.unit.specs.declared.mux.Setting.{Setting}
use Rattle.unit.specs.Refusals.{refusal, of_setup, number_of}
use Rattle.settings.specs.declared.typed.Line.{Line}
use Rattle.settings.specs.declared.say.Answer.{Answer as AnswerMade}
use Rattle.settings.specs.declared.say.Answer.TheVariants.{NotWhole, Accepted, Refused}
use Rattle.settings.specs.Typed.{blank, typed, whole, setting_of}
use Rattle.settings.specs.Advice.{advised}

-- whether the line was whole; setup's number for what it asks, and what to type instead
pub record Answer : Type 0 where
  pub whole : Bool
  pub code : ℕ
  pub instead : Setting

-- whether the line was three numbers, with or without the m; then setup's number for them, and what to type instead
abbrev pub answer_to : Line → Answer
answer_to t = record { whole = whole t; code = refusal (of_setup (setting_of t)); instead = advised (setting_of t) }

-- the code's answer: that the line was not whole, or setup's word on one that was, and what to type instead of what it refuses
abbrev pub Says : AnswerMade → Answer → Type 0
Says NotWhole a = a.whole ≡ false
Says Accepted a = (a.whole ≡ true) × (a.code ≡ 0)
Says (Refused r s) a = (a.whole ≡ true) × (a.code ≡ number_of r) × (s ≡ a.instead)

-- the line after one byte of what is typed: the end of a line begins the next
unfoldable pub taken : Line → ℕ → Line
taken t b = pick (eqb b 10) blank (typed t b)
