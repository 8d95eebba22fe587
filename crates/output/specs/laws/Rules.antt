-- The output service by any rules, one for a buffer's end and one for a special code: with a rule as it was before a request changed it, it is the
-- service as it was then.
--   ocw_of .. fetched_of   OCW, the pointer of the next byte, and the byte
--   output_by             the service by two such rules
--   by_the_rules         by today's it is today's service
-- Not here: what it was before K2, in Ends, and before K5, in Set.
-- Assumes nothing.
use Rattle.std.specs.Prelude.{◌≡◌, refl, Bool, not, ◌&&◌, ◌||◌, List, ℕ, ◌+◌, get_or, set}
use Rattle.words.specs.Codes.{at_ocw, at_obp, at_lob}
use Rattle.words.specs.Pointer.{step_ptr, at_end}
use Rattle.words.specs.Byte.{byte_at}
use Rattle.words.specs.Special.{special_in}
use Rattle.unit.specs.declared.mux.Port.{Port}
use Rattle.unit.specs.Reply.{Serviced, serviced}
use Rattle.output.specs.Output.{out_done, output_plan, becomes_changed, written_ocw, output_service}
use Rattle.output.specs.laws.Kept.{stepped}

-- OCW of the port whose block starts at the word a
abbrev pub ocw_of : List ℕ → ℕ → ℕ
ocw_of m a = get_or m (a + at_ocw) 0

-- the pointer of the buffer's next byte, and the byte: the pointer is written before it is fetched
abbrev pub next_of : List ℕ → ℕ → ℕ
next_of m a = step_ptr (get_or m (a + at_obp) 0)

abbrev pub fetched_of : List ℕ → ℕ → ℕ
fetched_of m a = byte_at (stepped m a) (next_of m a)

unfoldable pub output_by : (ℕ → ℕ → Bool) → (ℕ → Bool) → List ℕ → ℕ → Port → Serviced
output_by ends special m a q =
    let ocw = ocw_of m a in
    let last = ends (get_or m (a + at_obp) 0) (get_or m (a + at_lob) 0) in
    let plan = output_plan ocw q (fetched_of m a) last (special (fetched_of m a)) in
    let done = not (out_done ocw) && (plan.done || becomes_changed ocw q.devstatus) in
    serviced
    (record
    { sent = plan.sent; byte = plan.byte; raised = done; control = plan.control; devcontrol = plan.devcontrol })
    (set (stepped m a) (a + at_ocw) (written_ocw ocw q.devstatus done))

pub by_the_rules : (codes : List Bool) (m : List ℕ) (a : ℕ) (q : Port) → output_service codes m a q ≡ output_by at_end (special_in codes) m a q
unfolding output_service output_by stepped
by_the_rules codes m a q = refl
