-- What the mode of an output service asks for, and how the code has it.
--   Plan      a byte handed over or not, done or not, the control bits and the Device Control level after it
--   plan_of   what a plan says as the code has it, where a byte that is not handed over is none
-- Not here: which plan it is, in Output.
-- Assumes nothing.
use Rattle.std.specs.Prelude.{Bool, ℕ, is_some, unwrap_or}
use Rattle.output.specs.declared.plan.Plan.{Plan as Planned}

pub record Plan : Type 0 where
  pub sent : Bool
  pub byte : ℕ
  pub done : Bool
  pub control : ℕ
  pub devcontrol : Bool

-- what it says
abbrev pub plan_of : Planned → Plan
plan_of p =
    record { sent = is_some p.sent; byte = unwrap_or p.sent 0; done = p.done; control = p.control; devcontrol = p.devcontrol }
