-- `driver::host::fill` meets its contract: each call of its closure goes on by one number.
use Rattle.std.proofs.Common.{ap, ◌∙◌, ℕ, rules}
use Rattle.driver.specs.Host.{series}
use Rattle.driver.specs.laws.Fill.{series_run}
use Rattle.driver.proofs.host.fill.Goals as goal

pub returns : goal.returns
returns c =
    let r = c.fill_with.ensures in
    series_run _ (λ s. s.0) (λ _. 65536) (λ s v t k. search rules) _ _ _ r.ran.1 ∙ ap (λ (n : ℕ). series 65536 n c.args.seed) r.len
