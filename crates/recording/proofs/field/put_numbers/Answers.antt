-- `recording::field::put_numbers` meets its contract: one number after the other.
use Rattle.std.proofs.Common.{arith}
use Rattle.recording.specs.Layout.{width_of, layout_in}
use Rattle.recording.specs.Field.{numbers_of}
use Rattle.recording.specs.laws.Put.{put_then}
use Rattle.recording.specs.laws.Layout.{bytes_length}
use Rattle.recording.proofs.field.put_numbers.Goals as goal

pub put_part-requires : goal.put_part-requires
put_part-requires c =
    let e = c.args.e in
    let l = layout_in c.args.l in
    omega (arith, c.requires, c.put_part-a.ensures.next, c.put_part-a.ensures.same, bytes_length (width_of l.first) e.first, c.put_part-b.ensures.next, c.put_part-b.ensures.same, bytes_length (width_of l.second) e.second, c.put_part-c.ensures.next, c.put_part-c.ensures.same, bytes_length (width_of l.third) e.third)

pub returns : goal.returns
unfolding numbers_of
returns c =
    let a = c.args in
    let l = layout_in a.l in
    let o = a.out.now in
    let w = c.requires in
    let p = c.put_part-a.ensures in
    let q = c.put_part-b.ensures in
    let r = c.put_part-c.ensures in
    let one = bytes_length (width_of l.first) a.e.first in
    let two = bytes_length (width_of l.second) a.e.second in
    let three = bytes_length (width_of l.third) a.e.third in
    put_then _ _ a.at o _ _ _ _ (omega (arith, w, one)) p
    (put_then _ _ _ _ _ _ _ _ (omega (arith, w, one, two, p.next, p.same)) q
    (put_then _ _ _ _ _ _ _ _ (omega (arith, w, one, two, three, p.next, p.same, q.next, q.same)) r c.put_part.ensures))
