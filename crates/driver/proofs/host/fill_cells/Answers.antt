-- `driver::host::fill_cells` meets its contract: each call of its closure goes on by one number.
use Rattle.std.proofs.Common.{ap, ◌∙◌, ℕ, rules}
use Rattle.driver.specs.Host.{series, span}
use Rattle.driver.specs.laws.Fill.{series_run}
use Rattle.driver.proofs.host.fill_cells.Goals as goal

pub returns : goal.returns
returns c =
    let r = c.fill_with.ensures in
    series_run _ (λ s. s.0) (λ s. span s.1) (λ s v t k. search rules) _ _ _ r.ran.1 ∙ ap (λ (n : ℕ). series (span c.args.m) n c.args.seed) r.len
