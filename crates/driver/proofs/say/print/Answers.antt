-- `driver::say::print` is safe: the line ends within the text.
use mathlib.Core.Path.{◌≡◌, sym, ◌∙◌, ap}
use Prim.Native.Nat.{ℕ, ◌≤◌}
use mathlib.Core.List.{List}
use native.Mathlib.Omega.{arith}
use lib.ListN.{length, take, length-take}
use lib.Seq.{length-sets, length-take-le}
use Rattle.driver.specs.declared.say.Said.{Said}
use Rattle.driver.specs.Printed.{line, Put}
use Rattle.driver.specs.laws.Lines.{line_length}
use borrow.Author.Rules.{rules}
use Rattle.driver.proofs.say.print.Goals as goal

-- the line ends within a text of 4,096 bytes
ends : (s : Said) (before left : List ℕ) (end : ℕ) → length s.n ≡ 10 → 4096 ≡ length before → Put (line s) before 0 end left → end ≤ length left
ends s before left end ten size p =
    let long : length left ≡ length before = ap length p.text ∙ length-sets _ 0 (line s) in
    omega (arith, p.end, line_length (take s.count s.n), length-take s.count s.n)

pub slice_bounds-text-end : goal.slice_bounds-text-end
slice_bounds-text-end c = ends c.args.s _ _ _ (search rules) c.buffer-text.ensures c.line_in-end.ensures

pub slice_bounds-write_all-end : goal.slice_bounds-write_all-end
slice_bounds-write_all-end c = sym (length-take-le _ _ (ends c.args.s _ _ _ (search rules) c.buffer-text.ensures c.line_in-end.ensures))
