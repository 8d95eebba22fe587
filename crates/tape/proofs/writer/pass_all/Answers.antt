-- `tape::writer::pass_all` meets its contract: `pass_one` for each event.
use Rattle.std.proofs.Common.{◌+◌, drop, sym, ◌∙◌, ap, arith}
use Rattle.ground.specs.Machine.{run}
use Rattle.recording.specs.declared.pass.Pass.{Pass}
use Rattle.recording.specs.Pass.{Kept, kept, passed}
use Rattle.tape.proofs.Walks.{run_more, run_end}
use Rattle.tape.proofs.writer.pass_all.Goals as goal

pub loop-e-preserved : goal.loop-e-preserved
loop-e-preserved c =
    let l = c.loop-e in
    let es = c.args.events.now in
    ap (λ (k : Kept Pass). run passed k (drop (l.e-index + 1) es)) c.pass_one-w.ensures ∙ run_more passed (kept l.w l.out) es l.e-index _ c.loop-e-test.true ∙ l.invariant

pub returns : goal.returns
returns c =
    let l = c.loop-e in
    sym (run_end passed (kept l.w l.out) c.args.events.now l.e-index (omega arith)) ∙ l.invariant
