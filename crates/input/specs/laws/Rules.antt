-- The input service by any rules, one for a buffer's end and one for a special code: with a rule as it was before a request changed it, it is the
-- service as it was then.
--   input_by        the service by two such rules
--   by_the_rules   by today's it is today's service
-- Not here: what it was before K2, in Ends, and before K5, in Set.
-- Assumes nothing.
use Rattle.std.specs.Prelude.{◌≡◌, refl, Bool, List, ℕ, ◌+◌, get_or}
use Rattle.ground.specs.Choose.{pick}
use Rattle.words.specs.Codes.{at_ibp, at_lib, echoed_byte}
use Rattle.words.specs.Pointer.{at_end}
use Rattle.words.specs.Special.{special_in}
use Rattle.unit.specs.declared.mux.Port.{Port}
use Rattle.unit.specs.Reply.{Serviced, serviced}
use Rattle.input.specs.Input.{ascii, input_plan, carried, input_service}
use Rattle.input.specs.laws.Kept.{icw_of, code_of, next_of}

unfoldable pub input_by : (ℕ → ℕ → Bool) → (ℕ → Bool) → List ℕ → ℕ → Port → Serviced
input_by ends special m a q =
    let c = q.ch.byte in
    let last = ends (get_or m (a + at_ibp) 0) (get_or m (a + at_lib) 0) in
    let plan = input_plan (icw_of m a) (code_of q) c last (special c) q.empty in
    serviced
    (record {
      sent = plan.echo;
      byte = pick plan.echo (echoed_byte (ascii (icw_of m a)) c) 0;
      raised = plan.raised;
      control = q.control;
      devcontrol = q.devcontrol;
    })
    (carried plan a (next_of m a) m)

pub by_the_rules : (codes : List Bool) (m : List ℕ) (a : ℕ) (q : Port) → input_service codes m a q ≡ input_by at_end (special_in codes) m a q
unfolding input_service input_by
by_the_rules codes m a q = refl
