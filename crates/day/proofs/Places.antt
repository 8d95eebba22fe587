-- What an event did to every port, part by part.
--   map_tab, part_of                       a part of each element of a list by its rule
--   still, none                            nothing at all
--   begin_at, ibp_at                       where a port's line began, and where its pointer stood
--   same_view                              two looks that see the same
use Rattle.std.proofs.Common.{◌≡◌, refl, sym, ap, ◌∙◌, ℕ, zero, suc, ◌<◌, List, ◌∷◌, map, length, get_or, arith}
use Rattle.std.proofs.lemmas.List.{get_or-map, length-map}
use Rattle.ground.specs.Tab.{tab}
use Rattle.ground.specs.laws.Arrays.{tab_ext, tab_self}
use Rattle.day.specs.declared.names.Look.{Look}
use Rattle.day.specs.declared.names.Change.{Change}
use Rattle.day.specs.Names.{View, begins_of, view_of}

pub map_tab : {A B : Type 0} (part : A → B) (n : ℕ) (rule : ℕ → A) → map part (tab n rule) ≡ tab n (λ k. part (rule k))
unfolding tab
map_tab part zero rule = refl
map_tab {A} {B} part (suc n) rule = ap (λ (ys : List B). part (rule 0) ∷ ys) (map_tab part n (λ k. rule (suc k)))

pub part_of : {A B : Type 0} (part : A → B) (ys : List A) (rule : ℕ → A) (n : ℕ) (xs : List B) (d : B)
    → ys ≡ tab n rule → length xs ≡ n → ((k : ℕ) → part (rule k) ≡ get_or xs k d) → map part ys ≡ xs
part_of {A} {B} part ys rule n xs d made long is =
    ap (λ (zs : List A). map part zs) made ∙ map_tab part n rule ∙ tab_ext n (λ k. part (rule k)) (λ k. get_or xs k d) (λ k b. is k)
    ∙ ap (λ (m : ℕ). tab m (λ k. get_or xs k d)) (sym long) ∙ tab_self xs d

abbrev pub still : Look
still = record { ibp = 0; icw = 0 }

abbrev pub none : Change
none = record { begin = 0; was = still; is = still }

pub begin_at : (cs : List Change) (i : ℕ) → i < length cs → get_or (begins_of cs) i 0 ≡ (get_or cs i none).begin
begin_at cs i b = get_or-map (λ (c : Change). c.begin) cs i none 0 b

pub ibp_at : (part : Change → Look) (cs : List Change) (i : ℕ) → i < length cs → get_or (view_of (map part cs)).ibp i 0 ≡ (part (get_or cs i none)).ibp
ibp_at part cs i b =
    let long : length (map part cs) ≡ length cs = length-map cs part in
    let in_map : i < length (map part cs) = omega arith in
    get_or-map (λ (l : Look). l.ibp) (map part cs) i (part none) 0 in_map ∙ ap (λ (l : Look). l.ibp) (get_or-map part cs i none (part none) b)

pub same_view : (a b c d : List ℕ) → a ≡ b → c ≡ d → let u : View = record { ibp = a; icw = c } in let v : View = record { ibp = b; icw = d } in u ≡ v
same_view a b c d e f = ap (λ (l : List ℕ). let u : View = record { ibp = l; icw = c } in u) e ∙ ap (λ (l : List ℕ). let u : View = record { ibp = b; icw = l } in u) f
