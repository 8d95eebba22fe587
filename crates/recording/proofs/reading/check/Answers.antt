-- `recording::reading::check` meets its contract: a fault, no room, or all of it.
use Rattle.std.proofs.Common.{◌≡◌, length, refl, sym, ap, ◌∙◌, arith}
use Rattle.std.proofs.lemmas.Result.{err_from_is_err_and}
use Rattle.recording.specs.Event.{NO-ROOM}
use Rattle.recording.specs.declared.reading.Done.{Done}
use Rattle.recording.specs.Scan.{done, begun, scanned}
use Rattle.recording.specs.laws.Scan.{check_fault, check_full, check_all, scan_count, scan_clean}
use Rattle.recording.specs.laws.Views.{number_some}
use Rattle.recording.proofs.reading.check.Goals as goal

pub returns-in_err-scan : goal.returns-in_err-scan
returns-in_err-scan c =
    let bs = c.args.bytes.now in
    let r = c.in_err-scan.field-0.0 in
    let e = c.in_err-scan.ensures in
    let p = err_from_is_err_and c.from_residual.result c.from_residual.ensures.1 in
    rw (p.1, p.2)
    record {
      is = (λ i. done (sym e.0 i) (sym e.1 i) 0) ∙ sym (check_fault bs c.args.room (λ z. number_some r.fault (sym e.0 ∙ z)));
      within = omega arith;
    }

pub returns-in_err-part : goal.returns-in_err-part
returns-in_err-part c =
    let bs = c.args.bytes.now in
    let r = c.in_err-part.field-0.0 in
    let whole : (scanned (length bs) bs begun).code ≡ 0 = ap (λ (d : Done). d.code) c.in_ok-scan.ensures in
    absurd (number_some r.fault (sym c.in_err-part.ensures.0 ∙ scan_clean bs (length bs) c.args.room begun refl (omega arith) whole))

pub returns-then-part-bytes : goal.returns-then-part-bytes
returns-then-part-bytes c =
    let bs = c.args.bytes.now in
    let whole : (scanned (length bs) bs begun).code ≡ 0 = ap (λ (d : Done). d.code) c.in_ok-scan.ensures in
    let p = c.in_ok-part.ensures in
    record {
      is = ap (λ (d : Done). done NO-ROOM d.at 0) (sym p) ∙ sym (check_full bs c.args.room whole (omega (arith, c.if-part-bytes.true, ap (λ (d : Done). d.at) p)));
      within = omega arith;
    }

pub returns : goal.returns
returns c =
    let bs = c.args.bytes.now in
    let whole : (scanned (length bs) bs begun).code ≡ 0 = ap (λ (d : Done). d.code) c.in_ok-scan.ensures in
    let p = c.in_ok-part.ensures in
    record {
      is = ap (λ (d : Done). done 0 0 d.count) (sym p) ∙ sym (check_all bs c.args.room whole (omega (arith, c.if-part-bytes.false, ap (λ (d : Done). d.at) p)));
      within = omega (arith, scan_count bs c.args.room begun, ap (λ (d : Done). d.count) p);
    }
