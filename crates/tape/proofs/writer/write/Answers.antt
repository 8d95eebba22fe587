-- `tape::writer::write` meets its contract: the two passes come to the call. The type says of a slice that its bytes, 148 for an event, are fewer than 2 ^ 63.
use Rattle.std.proofs.Common.{◌∙◌, ap, arith}
use Rattle.recording.specs.declared.reading.Done.{Done}
use Rattle.recording.specs.Pass.{wrote}
use Rattle.tape.proofs.Passes.{both_passes, both_answer}
use Rattle.tape.proofs.writer.write.Goals as goal

pub answer-requires : goal.answer-requires
answer-requires c = both_answer c.args.events.now c.args.out.now _ _ _ _ c.first_pass.ensures c.pass_all-checked.ensures c.told.ensures

pub returns : goal.returns
returns c =
    ap (λ (d : Done). wrote d c.pass_all.new.out) c.answer.ensures
    ∙ both_passes c.args.events.now c.args.out.now (omega arith) _ _ _ _ _ _ _ c.first_pass.ensures c.pass_all-checked.ensures c.second_pass.ensures c.pass_all.ensures c.told.ensures
