-- `tape::reader::read` meets its contract: the checked answer, and each turn puts the next event.
use Rattle.std.proofs.Common.{◌≡◌, ℕ, suc, ◌+◌, ◌-◌, ◌<◌, List, ◌++◌, Some, length, take, drop, slice_set, length-set, length-take-le, sym, ◌∙◌, ap, arith, append-nil, zero-add}
use Rattle.std.proofs.lemmas.Result.{err_from_is_err_and}
use Rattle.std.proofs.Math.Seq.{drop-length}
use Rattle.recording.specs.declared.event.Event.{Event}
use Rattle.recording.specs.declared.reading.Done.{Done}
use Rattle.recording.specs.Scan.{One, done, begun, scanned, one_of, one_at, heard, reading, read}
use Rattle.recording.specs.laws.Fill.{fill, fill_none, fill_more, fill_is}
use Rattle.recording.specs.laws.Reads.{check_counts, read-refused}
use Rattle.recording.specs.laws.Scan.{field_here, fields_behind}
use Rattle.recording.specs.laws.Views.{number_some}
use Rattle.tape.proofs.reader.read.Goals as goal

-- a turn that read r
fill_read : (k i at : ℕ) (bytes : List ℕ) (out : List Event) (r : One) → r ≡ one_at bytes at → fill k (i + 1) r.next bytes (slice_set out i r.event) ≡ fill (suc k) i at bytes out
fill_read k i at bytes out r e = ap (λ (s : One). fill k (i + 1) s.next bytes (slice_set out i s.event)) e ∙ sym (fill_more k i at bytes out)

pub returns-in_err-count : goal.returns-in_err-count
unfolding read
returns-in_err-count c =
    let bs = c.args.bytes.now in
    let out = c.args.out.now in
    let r = c.in_err-count.field-0.0 in
    let is = c.in_err-count.ensures.is in
    let p = err_from_is_err_and c.from_residual.result c.from_residual.ensures.1 in
    rw (p.1, p.2) (ap (λ (d : Done). reading d out) is ∙ sym (read-refused bs out (λ z. number_some r.fault (ap (λ (d : Done). d.code) is ∙ z))))

pub loop-place-init : goal.loop-place-init
loop-place-init c =
    let bs = c.args.bytes.now in
    let out = c.args.out.now in
    let h = c.in_ok-count.ensures in
    let n : length out - 0 ≡ length out = omega arith in
    let m : c.in_ok-count.count - 0 ≡ c.in_ok-count.count = omega arith in
    record {
      fills = ap (λ (k : ℕ). fill k 0 0 bs (take c.in_ok-count.count out)) m;
      as_long = length-take-le c.in_ok-count.count out h.within;
      fields = ap (λ (k : ℕ). (scanned k bs begun).count) n ∙ check_counts bs (length out) (sym (ap (λ (d : Done). d.code) h.is)) ∙ sym (ap (λ (d : Done). d.count) h.is);
      within = h.within;
    }

pub unwrap-one-requires : goal.unwrap-one-requires
unwrap-one-requires c =
    let l = c.loop-place in
    let h = l.invariant in
    let lt : l.place-index < c.in_ok-count.count = omega (arith, c.loop-place-test.true, l.auto.place-items, h.as_long) in
    let n = length c.args.out.now - (l.place-index + 1) in
    let one : length c.args.out.now - l.place-index ≡ suc n = omega (arith, lt, h.within) in
    c.read_one.ensures.good.1 (field_here c.args.bytes.now n l.at l.place-index c.in_ok-count.count (ap (λ (k : ℕ). (scanned k c.args.bytes.now (done 0 l.at l.place-index)).count) (sym one) ∙ h.fields) lt)

pub loop-place-preserved : goal.loop-place-preserved
loop-place-preserved c =
    let l = c.loop-place in
    let i = l.place-index in
    let bs = c.args.bytes.now in
    let count = c.in_ok-count.count in
    let h = l.invariant in
    let o = c.unwrap-one.result in
    let lt : i < count = omega (arith, c.loop-place-test.true, l.auto.place-items, h.as_long) in
    let n = length c.args.out.now - (i + 1) in
    let one : length c.args.out.now - i ≡ suc n = omega (arith, lt, h.within) in
    let left : count - i ≡ suc (count - (i + 1)) = omega (arith, lt) in
    let is : one_of l.at (Some o) ≡ one_at bs l.at = ap (one_of l.at) (sym c.unwrap-one.ensures) ∙ c.read_one.ensures.event in
    record {
      fills = fill_read (count - (i + 1)) i l.at bs l.place-items (one_of l.at (Some o)) is ∙ ap (λ (k : ℕ). fill k i l.at bs l.place-items) (sym left) ∙ h.fills;
      as_long = length-set l.place-items i o.event ∙ h.as_long;
      fields =
          ap (λ (x : One). (scanned n bs (done 0 x.next (i + 1))).count) is ∙ fields_behind bs n l.at i count (ap (λ (k : ℕ). (scanned k bs (done 0 l.at i)).count) (sym one) ∙ h.fields) lt;
      within = h.within;
    }

pub returns : goal.returns
unfolding read
returns c =
    let l = c.loop-place in
    let i = l.place-index in
    let bs = c.args.bytes.now in
    let out = c.args.out.now in
    let count = c.in_ok-count.count in
    let h = l.invariant in
    let long : length (take count out) ≡ count = length-take-le count out h.within in
    let z : count - i ≡ 0 = omega (arith, c.loop-place-test.false, long) in
    let items : l.place-items ≡ heard count bs 0 =
    sym (fill_none i l.at bs l.place-items) ∙ ap (λ (k : ℕ). fill k i l.at bs l.place-items) (sym z) ∙ h.fills ∙ fill_is count 0 0 bs (take count out) (omega (arith, long))
    ∙ ap (λ (k : ℕ). heard count bs 0 ++ drop k (take count out)) (zero-add count ∙ sym long) ∙ ap (λ (es : List Event). heard count bs 0 ++ es) (drop-length (take count out)) ∙ append-nil (heard count bs 0)
    in
    ap (λ (es : List Event). reading (done 0 0 count) (es ++ drop count out)) items ∙ ap (λ (d : Done). reading d (heard d.count bs 0 ++ drop d.count out)) c.in_ok-count.ensures.is
