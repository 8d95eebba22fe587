-- `day::names::begins` meets its contract: what each case makes of every port.
use Rattle.std.proofs.Common.{◌≡◌, ℕ, ◌<◌, List, map, length, get_or, sym, ◌∙◌, rules, arith, eq-eqb, ne_eqb}
use Rattle.std.proofs.lemmas.List.{length-map, get_or-map}
use Rattle.std.proofs.lemmas.Simd.{map-map}
use Rattle.ground.specs.Choose.{pick}
use Rattle.ground.specs.laws.Filled.{by_rule, map_rule}
use Rattle.day.specs.declared.names.Look.{Look}
use Rattle.day.specs.declared.names.Change.{Change}
use Rattle.day.specs.Names.{begins, moved, rewritten, begins_of, was_of, is_of}
use Rattle.day.proofs.Accepted.{accepted}
use Rattle.day.proofs.Places.{none, begin_at, ibp_at}
use Rattle.day.proofs.names.begins.Goals as goal

-- where a host write has a line begin
abbrev moves : Change → ℕ
moves x = moved x.begin x.was.ibp x.is.ibp

all_moved : (cs : List Change) → length cs ≡ 128 → map moves cs ≡ rewritten (begins_of cs) (was_of cs).ibp (is_of cs).ibp
unfolding rewritten
all_moved cs long =
    by_rule (λ i. moved (get_or (begins_of cs) i 0) (get_or (was_of cs).ibp i 0) (get_or (is_of cs).ibp i 0)) 128 (map moves cs) 0
    (length-map cs moves ∙ long)
    (λ i b.
    let in_cs : i < length cs = omega arith in
    rw (begin_at cs i in_cs, ibp_at (λ (z : Change). z.was) cs i in_cs, ibp_at (λ (z : Change). z.is) cs i in_cs) (get_or-map moves cs i none 0 in_cs))

pub returns-then-e-is_ok : goal.returns-then-e-is_ok
unfolding begins pick
returns-then-e-is_ok c =
    let cs = c.args.changes in
    let made : c.map.result ≡ map (λ (x : Change). x.is.ibp) cs =
    map_rule _ (λ (x : Change). x.is.ibp) _ (λ p x y q k. search rules) cs _ 128 none 0 (search rules) c.map.ensures.items
    in
    let both : c.map.result ≡ (is_of cs).ibp = made ∙ sym (map-map (λ (l : Look). l.ibp) (λ (x : Change). x.is) cs) in
    rw (← accepted c.args.answered.now, ← c.is_ok.ensures.value, c.if-e-is_ok.true) both

pub returns-then-e : goal.returns-then-e
unfolding begins pick
returns-then-e c =
    let cs = c.args.changes in
    let made : c.map-then-e.result ≡ map moves cs = map_rule _ moves _ (λ p x y q k. search rules) cs _ 128 none 0 (search rules) c.map-then-e.ensures.items in
    rw (← accepted c.args.answered.now, ← c.is_ok.ensures.value, c.if-e-is_ok.false, eq-eqb _ _ c.if-e.true) (made ∙ all_moved cs (search rules))

pub returns : goal.returns
unfolding begins pick
returns c =
    let cs = c.args.changes in
    let made : c.map-2.result ≡ begins_of cs = map_rule _ (λ (x : Change). x.begin) _ (λ p x y q k. search rules) cs _ 128 none 0 (search rules) c.map-2.ensures.items in
    rw (← accepted c.args.answered.now, ← c.is_ok.ensures.value, c.if-e-is_ok.false, ne_eqb _ _ c.if-e.false) made
