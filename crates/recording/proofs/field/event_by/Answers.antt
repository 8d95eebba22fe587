-- `recording::field::event_by` meets its contract, part by part.
use Rattle.recording.specs.Layout.{layout_in}
use Rattle.recording.specs.laws.Parts.{event_parts}
use Rattle.recording.proofs.field.event_by.Goals as goal

pub returns : goal.returns
returns c =
    let a = c.args in
    event_parts (layout_in a.l) a.bytes.now a.tag
    c.part_at.ensures
    (rw (← c.part_size-b.ensures.is) c.part_at-2.ensures)
    (rw (← c.part_size-b.ensures.is, ← c.part_size.ensures.is) c.part_at-3.ensures)
    (rw (← c.part_size-b.ensures.is, ← c.part_size.ensures.is, ← c.part_size-2.ensures.is) c.part_at-4.ensures)
    c.set_in.ensures
