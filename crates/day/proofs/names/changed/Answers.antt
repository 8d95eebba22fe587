-- `day::names::changed` meets its contract: port by port.
use Rattle.std.proofs.Common.{◌≡◌, refl, ℕ, List, get_or, ap, rules}
use Rattle.ground.specs.Tab.{tab}
use Rattle.ground.specs.laws.Filled.{from_rule}
use Rattle.day.specs.declared.names.Look.{Look}
use Rattle.day.specs.declared.names.Change.{Change}
use Rattle.day.specs.Names.{view_of}
use Rattle.day.proofs.Places.{part_of, still, none}
use Rattle.day.proofs.names.changed.Goals as goal

-- a port's change, by the three lists
abbrev rule : List ℕ → List Look → List Look → ℕ → Change
rule begin was is i = record { begin = get_or begin i 0; was = get_or was i still; is = get_or is i still }

made : (c : goal.After-from_fn) → c.from_fn.result ≡ tab 128 (rule c.args.begin c.args.was c.args.is)
made c =
    from_rule _ (rule c.args.begin c.args.was c.args.is) _ (λ i y q k. (search rules, search rules)) c.from_fn.result 128 none c.from_fn.ensures.items

pub returns-clause-begin : goal.returns-clause-begin
returns-clause-begin c =
    part_of (λ (x : Change). x.begin) _ (rule c.args.begin c.args.was c.args.is) 128 c.args.begin 0 (made c) (search rules) (λ k. refl)

pub returns-clause-was : goal.returns-clause-was
returns-clause-was c =
    ap view_of (part_of (λ (x : Change). x.was) _ (rule c.args.begin c.args.was c.args.is) 128 c.args.was still (made c) (search rules) (λ k. refl))

pub returns-clause-is : goal.returns-clause-is
returns-clause-is c =
    ap view_of (part_of (λ (x : Change). x.is) _ (rule c.args.begin c.args.was c.args.is) 128 c.args.is still (made c) (search rules) (λ k. refl))
