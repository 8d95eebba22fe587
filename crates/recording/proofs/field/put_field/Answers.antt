-- `recording::field::put_field` meets its contract: head, numbers and set, one after the other.
use Rattle.std.proofs.Common.{◌≡◌, true, [], ◌++◌, length, sym, ap, ◌∙◌, arith}
use Rattle.recording.specs.Layout.{Layout, layout_in, numbers_length, data_length, layout_of}
use Rattle.recording.specs.Field.{bytes_of, numbers_of, marks_of, field}
use Rattle.recording.specs.laws.Put.{put_then, put_none}
use Rattle.recording.specs.laws.Layout.{numbers_length_lem, numbers_within, data_marked}
use Rattle.recording.proofs.field.put_field.Goals as goal

pub put_numbers-end-requires : goal.put_numbers-end-requires
unfolding bytes_of
put_numbers-end-requires c = let l = c.layout_of-l.ensures in let n = c.put_head-head.ensures in omega (arith, c.requires, ap data_length l, ap numbers_length l, n.next, n.same, numbers_within (layout_of c.args.e.tag))

pub put_marks-requires : goal.put_marks-requires
unfolding bytes_of
put_marks-requires c =
    let e = c.args.e in
    let l = c.layout_of-l.ensures in
    let h = c.put_head-head.ensures in
    let n = c.put_numbers-end.ensures in
    let t : (layout_of e.tag).set ≡ true = sym (ap (λ (k : Layout). k.set) l) ∙ c.if-l.true in
    omega (arith, c.requires, ap data_length l, ap numbers_length l, h.next, h.same, n.next, n.same, numbers_length_lem (layout_of e.tag) e, ap (λ (k : Layout). length (numbers_of k e)) l, data_marked (layout_of e.tag) t)

pub returns-then-l : goal.returns-then-l
unfolding field bytes_of numbers_of
returns-then-l c =
    let a = c.args in
    let e = a.e in
    let k = layout_in c.layout_of-l.result in
    let l = c.layout_of-l.ensures in
    let h = c.put_head-head.ensures in
    let n = c.put_numbers-end.ensures in
    rw (← l, ← c.data_length.ensures.is, c.if-l.true)
    (put_then _ (numbers_of k e ++ marks_of true e.set) a.at a.out.now _ _ _ _ (omega (arith, c.requires)) h
    (put_then _ (marks_of true e.set) _ _ _ _ _ _ (omega (arith, c.requires, h.next, h.same, ap data_length l, numbers_length_lem k e, numbers_within k)) n c.put_marks.ensures))

pub returns : goal.returns
unfolding field bytes_of marks_of numbers_of
returns c =
    let a = c.args in
    let e = a.e in
    let k = layout_in c.layout_of-l.result in
    let l = c.layout_of-l.ensures in
    let h = c.put_head-head.ensures in
    let n = c.put_numbers-end.ensures in
    rw (← l, ← c.data_length.ensures.is, c.if-l.false)
    (put_then _ (numbers_of k e ++ []) a.at a.out.now _ _ _ _ (omega (arith, c.requires)) h
    (put_then _ [] _ _ _ _ _ _ (omega (arith, c.requires, h.next, h.same, ap data_length l, numbers_length_lem k e, numbers_within k)) n (put_none c.put_numbers-end.result _)))
