-- `driver::host::set_all` meets its contract: a number's clone is the number.
use Rattle.std.proofs.Common.{◌∙◌, refl, rules}
use Rattle.std.proofs.lemmas.Simd.{splat_is_map}
use Rattle.driver.proofs.host.set_all.Goals as goal

pub returns : goal.returns
returns c = c.fill.ensures.after (λ y e. search rules) ∙ splat_is_map c.args.list.now _ c.args.value refl
