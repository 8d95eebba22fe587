-- `driver::say::put` meets its contract: the digits are copied, and one byte after them is written.
use Rattle.std.proofs.Common.{◌≡◌, ◌+◌, ◌≤◌, ℕ, List, length, take, arith, sym, append_assoc, length-append}
use Rattle.std.proofs.lemmas.List.{drop-drop}
use Rattle.std.proofs.lemmas.List.Edits.{sets, sets-eq}
use Rattle.std.proofs.Math.Seq.{take-length}
use borrow.Rule.Slice.PartMut.{put_mid}
use Rattle.driver.specs.laws.Lines.{put_last}
use Rattle.driver.proofs.say.put.Goals as goal

-- a part that is copied over is set
copied : (l ys now : List ℕ) (a k : ℕ) → k ≡ length ys → a + length ys ≤ length l → now ≡ ys → put_mid a k l now ≡ sets l a (take (length ys) ys)
copied l ys now a k e h q =
    rw (q, e, take-length ys, sets-eq ys l a h, drop-drop (length ys) a l) (sym (append_assoc (take a l) ys _))

pub returns : goal.returns
returns c =
    let a = c.args in
    let d = a.digits.now in
    record {
      end = simp length-append (omega arith);
      text = put_last a.text.now d a.at (length d) _ a.last (omega arith) (copied a.text.now d _ a.at _ (omega arith) (omega arith) c.copy_from_slice.ensures.after);
    }
