-- Every call answers by the table's number, and a refusal changes nothing (document 01, the table of refusals).
--   Refuses            an outcome that has the number k, and where k is a refusal is the world and the list as they were
--   performed_refuses  of one thing asked of the unit that stands
-- In proofs/laws/Refusals, since they rest on these: step_refuses, step_never_five.
-- Not here: which number it is, in unit, laws/Refusals; the same through the door, in door, laws/Door.
-- Assumes nothing.
use Rattle.std.specs.Prelude.{◌≡◌, refl, List, ℕ}
use Rattle.std.proofs.Common.{sym, ◌∙◌, ap}
use Rattle.unit.specs.declared.mux.Mux.{Mux}
use Rattle.unit.specs.Reply.{Replied}
use Rattle.unit.specs.Reply.{refused, World, Looked, looked, Outcome, outcome}
use Rattle.unit.specs.Refusals.{refusal, of_inspection}
use Rattle.unit.specs.laws.Replies.{Answered}
use Rattle.unit.proofs.laws.Replies.{guarded_answers}
use Rattle.lines.specs.Lines.{line}
use Rattle.processor.specs.Processor.{order}
use Rattle.scan.specs.Scan.{inspection}
use Rattle.scan.specs.laws.Scan.{Kind, takes_turn, stands_still}
use Rattle.scan.proofs.laws.Scan.{kind, scan_moves}
use Rattle.calls.specs.declared.call.Act.{Act}
use Rattle.calls.specs.declared.call.Act.TheVariants.{Line, Processor, Inspect}
use Rattle.calls.specs.Calls.{performed, with_list, given_to}

-- the number k, and where it is a refusal the record, the memory and the list as they were, with no further result
pub record Refuses (k : ℕ) (u : Mux) (m xs : List ℕ) (o : Outcome) : Type 0 where
  pub number : o.reply.code ≡ k
  pub keeps : (k ≡ 0 → ⊥) → o ≡ outcome (refused k u) m xs

-- a call on the record alone
pub on_record : (k : ℕ) (u : Mux) (m xs : List ℕ) (r : Replied) → Answered k u r → Refuses k u m xs (with_list (looked r m) xs)
on_record k u m xs r a = record { number = a.number; keeps = λ h. ap (λ (x : Replied). outcome x m xs) (a.keeps h) }

-- an inspection
looks : (u : Mux) (m xs : List ℕ) → Refuses (refusal (of_inspection u m)) u m xs (with_list (inspection u m) xs)
looks u m xs = go (kind u m)
  where
    go : Kind u m → Refuses (refusal (of_inspection u m)) u m xs (with_list (inspection u m) xs)
    go (takes_turn e r t) =
        record { number = ap (λ (l : Looked). l.reply.code) t ∙ (scan_moves u m).code ∙ sym e; keeps = λ h. absurd (h e) }
    go (stands_still k e t) =
        record {
          number = ap (λ (l : Looked). l.reply.code) t ∙ sym e;
          keeps = λ h. ap (λ (l : Looked). with_list l xs) t ∙ ap (λ (n : ℕ). outcome (refused n u) m xs) (sym e);
        }

-- one thing asked of the unit that stands
pub performed_refuses : (w : World) (xs : List ℕ) (a : Act) → Refuses (refusal (given_to w a)) w.mux w.memory xs (with_list (performed w a) xs)
unfolding performed given_to line order
performed_refuses w xs (Line p e) = on_record _ w.mux w.memory xs _ (guarded_answers _ w.mux _ refl)
performed_refuses w xs (Processor o) = on_record _ w.mux w.memory xs _ (guarded_answers _ w.mux _ refl)
performed_refuses w xs Inspect = looks w.mux w.memory xs
