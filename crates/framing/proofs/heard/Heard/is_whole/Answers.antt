-- `framing::heard::Heard::is_whole` meets its contract: the bauds, taken from the lowest up.
use Rattle.std.proofs.Common.{◌≡◌, Bool, ℕ, zero, suc, ◌+◌, ◌-◌, ◌&&◌, true, false, refl, ap, ◌∙◌, rules, arith}
use borrow.Author.Tests.{tests}
use Rattle.std.specs.List.{list_all, range_with_len}
use Rattle.std.proofs.lemmas.Iterator.{YieldsList-from_range}
use Rattle.std.proofs.lemmas.Iterator.Search.{all_from_yields_List}
use Rattle.framing.specs.Form.{first_stop}
use Rattle.framing.specs.Read.{level_at, alike, whole_to}
use Rattle.framing.proofs.heard.Heard.is_whole.Goals as goal

swap : (a b c : Bool) → (a && (b && c)) ≡ (b && (a && c))
swap true b c = refl
swap false true c = refl
swap false false c = refl

-- the last baud of those from a on, taken first
last_first : (test : ℕ → Bool) (a n j : ℕ) → a + n ≡ j → list_all test (range_with_len a (suc n)) ≡ (test j && list_all test (range_with_len a n))
last_first test a zero j e =
    let i : a ≡ j = omega arith in
    ap (λ (k : ℕ). test k && true) i
last_first test a (suc n) j e =
    ap (λ (b : Bool). test a && b) (last_first test (a + 1) n j (omega arith)) ∙ swap (test a) (test j) (list_all test (range_with_len (a + 1) n))

in_order : (g : ℕ → ℕ) (m : ℕ) → list_all (alike g) (range_with_len 1 m) ≡ whole_to g m
unfolding whole_to
in_order g zero = refl
in_order g (suc m) = last_first (alike g) 1 m (suc m) (omega arith) ∙ ap (λ (b : Bool). alike g (suc m) && b) (in_order g m)

pub returns : goal.returns
returns c =
    let g = level_at c.args.self.now.cells.now in
    let n = first_stop c.args.self.now.form in
    all_from_yields_List (alike g) _ _ _ c.all.ensures.ran (YieldsList-from_range 1 n (n - 1) (rw c.first_stop.ensures.is) refl) (λ x b q k. search (rules, tests)) ∙ in_order g (n - 1)
