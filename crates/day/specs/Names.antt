-- The lines that pupils type: where each began in its buffer.
--   column, View, viewed    one word of the control block of each port; the two that are looked at
--   look_of, view_of   the two words of one port, and of all, as the code has them, port by port
--   begins_of, was_of, is_of   what an event did to every port, likewise
--   answer_code   the number of an answer
--   moved, rewritten   where a line began, and the lines, after the host wrote a word
--   begins             where the lines began, after an event
-- Not here: what is printed of them, which the stored output holds.
-- Assumes nothing.
use Rattle.std.specs.Prelude.{◌&&◌, List, ℕ, eqb, get_or, map, Result, Ok, Err}
use Rattle.ground.specs.Choose.{pick}
use Rattle.ground.specs.Tab.{tab}
use Rattle.unit.specs.declared.mux.Setting.{Setting}
use Rattle.unit.specs.declared.reply.Replied as Made
use Rattle.unit.specs.declared.refusal.Refusal.{Refusal}
use Rattle.unit.specs.Refusals.{number_of}
use Rattle.telling.specs.Look.{word_of}
use Rattle.words.specs.Codes.{at_icw, at_ibp}
use Rattle.day.specs.declared.names.Look.{Look}
use Rattle.day.specs.declared.names.Change.{Change}

-- word k of the control block of each port, a place past the last port too
unfoldable pub column : Setting → List ℕ → ℕ → List ℕ
column s m k = tab 128 (λ p. word_of s m p k)

-- the two words that are looked at, of each port
pub record View : Type 0 where
  pub ibp : List ℕ
  pub icw : List ℕ

abbrev pub viewed : Setting → List ℕ → View
viewed s m = record { ibp = column s m at_ibp; icw = column s m at_icw }

-- port p's
abbrev pub look_of : Setting → List ℕ → ℕ → Look
look_of s m p = record { ibp = word_of s m p at_ibp; icw = word_of s m p at_icw }

-- those of all ports, port by port
abbrev pub view_of : List Look → View
view_of v = record { ibp = map (λ (l : Look). l.ibp) v; icw = map (λ (l : Look). l.icw) v }

-- where the lines began before an event, and what stood in the words before and after it
abbrev pub begins_of : List Change → List ℕ
begins_of cs = map (λ (c : Change). c.begin) cs

abbrev pub was_of : List Change → View
was_of cs = view_of (map (λ (c : Change). c.was) cs)

abbrev pub is_of : List Change → View
is_of cs = view_of (map (λ (c : Change). c.is) cs)

-- the number of an answer: 0 where the call is not refused
abbrev pub answer_code : Result Made.Replied Refusal → ℕ
answer_code (Ok r) = 0
answer_code (Err e) = number_of e

-- a pointer that was one thing and became another begins a line there
unfoldable pub moved : ℕ → ℕ → ℕ → ℕ
moved begin was is = pick (eqb was is) begin is

-- so at each port
unfoldable pub rewritten : List ℕ → List ℕ → List ℕ → List ℕ
rewritten begin was is = tab 128 (λ p. moved (get_or begin p 0) (get_or was p 0) (get_or is p 0))

-- after an event: anew after a setup (tag 1) that is not refused; where the pointer was written, after a host write (tag 6); else as they were
unfoldable pub begins : ℕ → ℕ → List ℕ → List ℕ → List ℕ → List ℕ
begins tag code begin was is = pick (eqb tag 1 && eqb code 0) is (pick (eqb tag 6) (rewritten begin was is) begin)
