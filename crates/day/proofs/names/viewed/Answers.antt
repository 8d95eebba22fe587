-- `day::names::viewed` meets its contract: port by port, each of the two words.
use Rattle.std.proofs.Common.{◌≡◌, ℕ, ap, ◌∙◌, rules}
use Rattle.ground.specs.Tab.{tab}
use Rattle.ground.specs.laws.Filled.{from_rule}
use Rattle.day.specs.declared.names.Look.{Look}
use Rattle.day.specs.Names.{view_of, look_of, column}
use Rattle.day.proofs.Places.{map_tab, still, same_view}
use Rattle.day.proofs.names.viewed.Goals as goal

pub returns : goal.returns
unfolding column
returns c =
    let rule : ℕ → Look = λ p. look_of c.args.s c.args.mem.now p in
    let made : c.from_fn.result ≡ tab 128 rule = from_rule _ rule _ (λ i y q k. (search rules, search rules)) c.from_fn.result 128 still c.from_fn.ensures.items in
    ap view_of made ∙ same_view _ _ _ _ (map_tab (λ (l : Look). l.ibp) 128 rule) (map_tab (λ (l : Look). l.icw) 128 rule)
