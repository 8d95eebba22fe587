-- `door::call_by_value` meets its contract: a refusal left the record as it was.
use Rattle.std.proofs.Common.{rules}
use Rattle.door.proofs.ByValue.{refused_by_value}
use Rattle.door.proofs.call_by_value.Goals as goal

pub returns-in_err-reply : goal.returns-in_err-reply
returns-in_err-reply c =
    let h = refused_by_value c.args.u _ _ _ _ _ c.args.c c.in_err-reply.field-0.0 c.in_err-reply.ensures in
    search rules
