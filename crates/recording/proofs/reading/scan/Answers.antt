-- `recording::reading::scan` meets its contract: one field more, the end, or so many.
use Rattle.std.proofs.Common.{◌≡◌, ℕ, suc, ◌+◌, ◌-◌, ◌<◌, Bool, ◌&&◌, List, length, ltb, sym, ap, ◌∙◌, arith, ne_eqb}
use Rattle.std.proofs.lemmas.Result.{err_from_is_err_and}
use Rattle.recording.specs.declared.fault.Refused.{Refused}
use Rattle.recording.specs.Fault.{number_of}
use Rattle.recording.specs.declared.reading.Done.{Done}
use Rattle.recording.specs.Scan.{done, begun, scan_one, scanned}
use Rattle.recording.specs.laws.Scan.{scan_on, scan-end, one_count, goes, stops}
use Rattle.recording.specs.laws.Views.{number_some}
use Rattle.recording.proofs.reading.scan.Goals as goal

-- one field more of those that are left
more : (bs : List ℕ) (most i at k : ℕ) → at < length bs → i < most → scanned (most - i) bs (done 0 at k) ≡ scanned (most - (i + 1)) bs (scan_one bs (done 0 at k))
more bs most i at k h l =
    let n : most - i ≡ suc (most - (i + 1)) = omega (arith, l) in
    ap (λ (m : ℕ). scanned m bs (done 0 at k)) n ∙ scan_on bs (most - (i + 1)) (done 0 at k) (goes bs at k h)

-- and nothing more once one is at fault
stuck : (bs : List ℕ) (n : ℕ) (d : Done) (r : Refused) → d.code ≡ number_of r.fault → scanned n bs d ≡ d
stuck bs n d r e = scan-end bs n d (ap (λ (t : Bool). t && ltb d.at (length bs)) (ne_eqb d.code 0 (λ z. number_some r.fault (sym e ∙ z))))

pub returns-then-bytes-r : goal.returns-then-bytes-r
returns-then-bytes-r c =
    let l = c.loop in
    let bs = c.args.bytes.now in
    sym l.invariant.0 ∙ scan-end bs (c.args.most - l.counter) (done 0 l.r.at l.r.count) (stops bs l.r.at l.r.count c.if-bytes-r.true)

pub returns-in_err-r : goal.returns-in_err-r
returns-in_err-r c =
    let l = c.loop in
    let bs = c.args.bytes.now in
    let most = c.args.most in
    let r = c.in_err-r.field-0.0 in
    let d = scan_one bs (done 0 l.r.at l.r.count) in
    let p = err_from_is_err_and c.from_residual.result c.from_residual.ensures.1 in
    let is : scanned most bs begun ≡ d = sym l.invariant.0 ∙ more bs most l.counter l.r.at l.r.count c.if-bytes-r.false c.loop-test.true ∙ stuck bs (most - (l.counter + 1)) d r c.in_err-r.ensures.0 in
    rw (p.1, p.2) (ap (λ (e : Done). e.code) is ∙ c.in_err-r.ensures.0, ap (λ (e : Done). e.at) is ∙ c.in_err-r.ensures.1)

pub loop-preserved : goal.loop-preserved
loop-preserved c =
    let l = c.loop in
    let bs = c.args.bytes.now in
    let most = c.args.most in
    let e = c.in_ok-r.ensures in (
      ap (λ (d : Done). scanned (most - (l.counter + 1)) bs d) (sym e) ∙ sym (more bs most l.counter l.r.at l.r.count c.if-bytes-r.false c.loop-test.true) ∙ l.invariant.0,
      omega (arith, l.invariant.1, one_count bs (done 0 l.r.at l.r.count), ap (λ (d : Done). d.count) e),
    )

pub returns : goal.returns
unfolding scanned
returns c =
    let l = c.loop in
    let bs = c.args.bytes.now in
    let z : c.args.most - l.counter ≡ 0 = omega (arith, c.loop-test.false) in
    sym l.invariant.0 ∙ ap (λ (n : ℕ). scanned n bs (done 0 l.r.at l.r.count)) z
