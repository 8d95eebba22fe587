-- `recording::pass::put_on` meets its contract: the field put, or nothing.
use Rattle.std.proofs.Common.{◌≡◌, ℕ, ◌+◌, sym, ◌∙◌, ap}
use Rattle.recording.specs.Layout.{field_length}
use Rattle.recording.specs.Pass.{kept}
use Rattle.recording.specs.laws.Layout.{field_length_lem}
use Rattle.recording.specs.laws.Steps.{put_goes, put_stays, put_room}
use Rattle.recording.proofs.pass.put_on.Goals as goal

pub put_field-requires : goal.put_field-requires
put_field-requires c = let a = c.args in put_room (kept a.p a.out.now) a.e (sym c.may_put.ensures ∙ c.if-may_put.true)

pub returns-then-may_put : goal.returns-then-may_put
returns-then-may_put c =
    let a = c.args in
    let put = c.put_field.ensures in
    let at : c.put_field.result ≡ a.p.at + field_length a.e.tag = put.next ∙ ap (λ (n : ℕ). a.p.at + n) (field_length_lem a.e) in
    (λ i. kept (record { puts = a.p.puts; code = a.p.code; found = a.p.found; at = at i; room = a.p.room }) (put.bytes i))
    ∙ sym (put_goes (kept a.p a.out.now) a.e (sym c.may_put.ensures ∙ c.if-may_put.true))

pub returns : goal.returns
returns c = let a = c.args in sym (put_stays (kept a.p a.out.now) a.e (sym c.may_put.ensures ∙ c.if-may_put.false))
