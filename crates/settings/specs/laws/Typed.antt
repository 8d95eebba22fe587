-- What a line asks for.
--   line_read               a line of three numbers below 2^32, a space between them, is answered by what an EDS-8's setup says of exactly those
--   line_mighty             with a space and an m after them, by what a Mighty Mux's says
--   line_anew               what was typed on the lines before leaves no trace
-- Not here: how a line is read, in specs/Typed; a number's digits, in Printed of the crate driver.
-- Assumes nothing.
use Rattle.std.specs.Prelude.{◌≡◌, refl, Bool, true, false, ℕ, zero, suc, ◌+◌, ◌*◌, ◌/◌, ◌%◌, ◌^◌, ◌<◌, ◌≤◌, ltb}
use Rattle.std.proofs.Common.{sym, ap, ◌∙◌, pow-suc, div-lt_iff_lt-mul, arith, ne_eqb, lt-ltb, le-ltb}
use Rattle.std.proofs.Math.Bool.{or-false}
use mathlib.Core.List.{List, [], ◌∷◌, ◌++◌, foldl, foldl-append, append-nil}
use Rattle.std.proofs.Math.Decide.{dec_lt}
use Rattle.ground.specs.Choose.{pick}
use Rattle.words.specs.Special.{set1974}
use Rattle.interrupt.specs.declared.Kind.TheVariants.{Eds8, MightyMux}
use Rattle.unit.specs.declared.mux.Setting.{Setting}
use Rattle.unit.specs.Refusals.{refusal, of_setup}
use Rattle.driver.specs.Text.{is_digit}
use Rattle.driver.specs.Printed.{numeral, decimal}
use Rattle.settings.specs.declared.typed.Line.{Line}
use Rattle.settings.specs.Typed.{blank, begun, extended, digit_typed, spaced, typed, kind_of}
use Rattle.settings.specs.Advice.{advised}
use Rattle.settings.specs.Answer.{Answer, answer_to, taken}

-- the line with one more number
abbrev pub and : Line → ℕ → Line
and t x = record { block = t.ports; ports = t.base; base = x; count = t.count + 1; inside = true; mighty = t.mighty; wrong = t.wrong }

-- the bytes 48 to 57 are digits
digit : (x : ℕ) → x < 10 → is_digit (48 + x) ≡ true
unfolding is_digit pick
digit x h = rw (le-ltb 57 (48 + x) (omega arith)) (lt-ltb 47 (48 + x) (omega arith))

-- the first digit of a number
first : (t : Line) (x : ℕ) → t.inside ≡ false → t.count < 3 → x < 10 → taken t (48 + x) ≡ and t x
unfolding taken typed digit_typed begun pick
first t x i c h =
    let e : (48 + x) % 16 ≡ x = omega arith in
    rw (ne_eqb (48 + x) 10 (λ e. omega (arith, e)), digit x h, i, e, lt-ltb t.count 3 c)

-- another digit of it
next : (t : Line) (x y : ℕ) → y < 10 → x * 10 + y < 4294967296 → taken (and t x) (48 + y) ≡ and t (x * 10 + y)
unfolding taken typed digit_typed extended pick
next t x y h g =
    let e : (48 + y) % 16 ≡ y = omega arith in
    let m : (x * 10 + y) % 4294967296 ≡ x * 10 + y = omega arith in
    rw (ne_eqb (48 + y) 10 (λ e. omega (arith, e)), digit y h, e, m, le-ltb 4294967295 (x * 10 + y) (omega arith))
    (ap (λ (w : Bool). record { block = t.ports; ports = t.base; base = x * 10 + y; count = t.count + 1; inside = true; mighty = t.mighty; wrong = w }) (or-false t.wrong))

-- a number's digits, where k of them are enough
number : (k x : ℕ) (t : Line) → 0 < k → x < 10 ^ k → x < 4294967296 → t.inside ≡ false → t.count < 3 → foldl taken t (numeral k x) ≡ and t x
unfolding numeral pick
number zero x t z h g i c = absurd (omega arith)
number (suc k) x t z h g i c = go (dec_lt x 10) (number k (x / 10) t)
  where
    low : 10 ≤ x → (0 < k) × (x / 10 < 10 ^ k)
    low l = (more (dec_lt 0 k), (div-lt_iff_lt-mul {k = 10} {x = x} {y = 10 ^ k} (omega arith)).1 (rw (← pow-suc 10 k) h))
      where
        more : Dec (0 < k) → 0 < k
        more (yes p) = p
        more (no p) = let e : k ≡ 0 = omega arith in let f : x < 10 ^ 1 = rw e at h in absurd (omega arith)

    go : Dec (x < 10) → (0 < k → x / 10 < 10 ^ k → x / 10 < 4294967296 → t.inside ≡ false → t.count < 3 → foldl taken t (numeral k (x / 10)) ≡ and t (x / 10)) → foldl taken t (pick (ltb x 10) ((48 + x) ∷ []) (numeral k (x / 10) ++ ((48 + x % 10) ∷ []))) ≡ and t x
    go (yes l) rest = rw (lt-ltb x 10 l) (first t x i c l)
    go (no l) rest =
        let p = low (omega arith) in
        let e : x / 10 * 10 + x % 10 ≡ x = omega arith in
        rw (le-ltb x 10 (omega arith))
        (foldl-append taken t (numeral k (x / 10)) ((48 + x % 10) ∷ []) ∙ ap (λ (u : Line). taken u (48 + x % 10)) (rest p.0 p.1 (omega arith) i c) ∙ next t (x / 10) (x % 10) (omega arith) (omega arith) ∙ ap (λ (y : ℕ). and t y) e)

-- and then the rest of the line
number_then : (x : ℕ) (t : Line) (rest : List ℕ) → x < 4294967296 → t.inside ≡ false → t.count < 3 → foldl taken t (decimal x ++ rest) ≡ foldl taken (and t x) rest
number_then x t rest h i c =
    foldl-append taken t (decimal x) rest ∙ ap (λ (u : Line). foldl taken u rest) (number 20 x t (omega arith) (omega arith) h i c)

-- a space, and the next number
space : (t : Line) (x y : ℕ) (rest : List ℕ) → y < 4294967296 → t.count < 2 → t.wrong ≡ false → foldl taken (and t x) (32 ∷ (decimal y ++ rest)) ≡ foldl taken (and (and t x) y) rest
unfolding taken typed is_digit pick
space t x y rest h c w =
    number_then y (spaced (and t x) 32) rest h refl (omega arith) ∙ rw w

-- what setup says of a setting, and what to type instead
abbrev pub told : Setting → Answer
told s = record { whole = true; code = refusal (of_setup s); instead = advised s }

-- the bytes of a line of three numbers, without its end
abbrev pub spelled : ℕ → ℕ → ℕ → List ℕ
spelled b n a = decimal b ++ (32 ∷ (decimal n ++ (32 ∷ decimal a)))

-- it is read as the three
three : (b n a : ℕ) → b < 4294967296 → n < 4294967296 → a < 4294967296 → foldl taken blank (spelled b n a) ≡ and (and (and blank b) n) a
three b n a h g f =
    number_then b blank _ h refl (omega arith) ∙ space blank b n _ g (omega arith) refl ∙
    ap (λ (ys : List ℕ). foldl taken (and (and blank b) n) (32 ∷ ys)) (sym (append-nil (decimal a))) ∙ space (and blank b) n a [] f (omega arith) refl

-- so it is answered by what setup says of exactly those
pub line_read : (b n a : ℕ) → b < 4294967296 → n < 4294967296 → a < 4294967296 → answer_to (foldl taken blank (spelled b n a)) ≡ told (record { kind = Eds8; block = b; ports = n; base = a; special = set1974 })
unfolding kind_of pick
line_read b n a h g f = ap answer_to (three b n a h g f)

-- the bytes of such a line with a space and an m after it
abbrev pub with_m : List ℕ → List ℕ
with_m text = text ++ (32 ∷ 109 ∷ [])

-- it is answered by what setup says of a Mighty Mux with exactly those
pub line_mighty : (b n a : ℕ) → b < 4294967296 → n < 4294967296 → a < 4294967296 → answer_to (foldl taken blank (with_m (spelled b n a))) ≡ told (record { kind = MightyMux; block = b; ports = n; base = a; special = set1974 })
unfolding taken typed is_digit kind_of pick
line_mighty b n a h g f =
    ap answer_to (foldl-append taken blank (spelled b n a) (32 ∷ 109 ∷ []) ∙ ap (λ (t : Line). foldl taken t (32 ∷ 109 ∷ [])) (three b n a h g f))

-- and what was typed before the end of a line leaves no trace on the next
pub line_anew : (t : Line) (text rest : List ℕ) → foldl taken t (text ++ (10 ∷ rest)) ≡ foldl taken blank rest
unfolding taken pick
line_anew t text rest = foldl-append taken t text (10 ∷ rest)
