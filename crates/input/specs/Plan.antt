-- What an input service is to do, and how the code has it.
--   Plan               the byte stored or not, ICW written or not, an echo or not, an interrupt or not
--   planned, plan_of   a plan as the code has it, where a byte that is not stored is none; and what such a plan says
--   error_number       the error code as the code has it, by the numbers of words' Codes
-- Not here: which plan it is, in Input.
-- Assumes nothing.
use Rattle.std.specs.Prelude.{Bool, ℕ, is_some, unwrap_or}
use Rattle.std.specs.Bool.{then_some}
use Rattle.words.specs.Codes.{flag_none, flag_parity, flag_overload, flag_break}
use Rattle.input.specs.declared.icw.ErrorCode.{ErrorCode}
use Rattle.input.specs.declared.icw.ErrorCode.TheVariants.{NoError, Parity, Overload, Break}
use Rattle.input.specs.declared.plan.Plan.{Plan as Planned}

pub record Plan : Type 0 where
  pub store : Bool
  pub byte : ℕ
  pub write : Bool
  pub icw : ℕ
  pub echo : Bool
  pub raised : Bool

-- as the code has it
abbrev pub planned : Plan → Planned
planned p =
    record { stored = then_some p.store p.byte; write = p.write; icw = p.icw; echo = p.echo; raised = p.raised }

-- what it says
abbrev pub plan_of : Planned → Plan
plan_of p =
    record {
      store = is_some p.stored;
      byte = unwrap_or p.stored 0;
      write = p.write;
      icw = p.icw;
      echo = p.echo;
      raised = p.raised;
    }

-- bits 4 and 5 of ICW
abbrev pub error_number : ErrorCode → ℕ
error_number NoError = flag_none
error_number Parity = flag_parity
error_number Overload = flag_overload
error_number Break = flag_break
