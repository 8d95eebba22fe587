-- Laws of a bit field: put as a sum; a field read back; a field beside it; what is written fits a word.
-- Not here: which fields there are, in specs/Codes.
-- Assumes nothing.
use Rattle.std.specs.Prelude.{◌≡◌, ℕ, ◌+◌, ◌*◌, ◌/◌, ◌%◌, ◌<◌, ◌≤◌, T, nat_lt}
use Rattle.std.proofs.Common.{sym, ◌∙◌, ap, mod-lt, div-add-mod', mul-le-mul_right, div-lt_iff_lt-mul, arith, lit<}
use Rattle.std.proofs.Math.Nat.{div-div-eq-div-mul, add-mul-div_right, add-mul-mod_self_right}
use Rattle.std.proofs.Math.Arith.{digits_div, digits_mod}
use Rattle.words.specs.declared.field.Field.{Field}
use Rattle.words.specs.Field.{get, put, Whole}

-- for a field with its numbers written out: the three facts are computed
pub whole : (f : Field) → T (nat_lt 0 f.unit) → T (nat_lt 0 f.span) → 65536 % (f.span * f.unit) ≡ 0 → Whole f
whole f u s e = record { unit_positive = lit< u; span_positive = lit< s; ends = e }

-- a word by its field: what stands above, the field, and what stands below
parts : (f : Field) (w : ℕ) → w ≡ w / f.unit / f.span * f.span * f.unit + get f w * f.unit + w % f.unit
unfolding get
parts f w =
    omega (arith, div-add-mod' w f.unit, ap (λ (x : ℕ). x * f.unit) (div-add-mod' (w / f.unit) f.span))

-- a field's part of a word is at most the word
pub part_le : (f : Field) (w : ℕ) → get f w * f.unit ≤ w
part_le f w = omega (arith, parts f w)

-- put as a sum: what stood above, the new value, what stood below
pub put_sum : (f : Field) (v w : ℕ) → put f v w ≡ (w / f.unit / f.span * f.span + v) * f.unit + w % f.unit
unfolding put
put_sum f v w = omega (arith, parts f w)

pub get_below : (f : Field) (w : ℕ) → Whole f → get f w < f.span
unfolding get
get_below f w h = mod-lt (w / f.unit) h.span_positive

-- what is read of a field after it was written
pub get-put : (f : Field) (v w : ℕ) → Whole f → v < f.span → get f (put f v w) ≡ v
unfolding get
get-put f v w h l =
    ap (λ (x : ℕ). x / f.unit % f.span) (put_sum f v w)
    ∙ ap (λ (x : ℕ). x % f.span) (digits_div (w / f.unit / f.span * f.span + v) (mod-lt w h.unit_positive))
    ∙ digits_mod (w / f.unit / f.span) l

-- a field that stands wholly above the one written is as it was
pub get_put_above : (f g : Field) (k v w : ℕ) → g.unit ≡ f.unit * f.span * k → Whole f → v < f.span → get g (put f v w) ≡ get g w
unfolding get
get_put_above f g k v w e h l = ap (λ (x : ℕ). x % g.span) (over (put f v w) ∙ ap (λ (x : ℕ). x / k) same ∙ sym (over w))
  where
    over : (x : ℕ) → x / g.unit ≡ x / f.unit / f.span / k
    over x =
        ap (λ (n : ℕ). x / n) e
        ∙ sym (div-div-eq-div-mul x (f.unit * f.span) k)
        ∙ ap (λ (n : ℕ). n / k) (sym (div-div-eq-div-mul x f.unit f.span))

    same : put f v w / f.unit / f.span ≡ w / f.unit / f.span
    same =
        ap (λ (x : ℕ). x / f.unit / f.span) (put_sum f v w)
        ∙ ap (λ (x : ℕ). x / f.span) (digits_div (w / f.unit / f.span * f.span + v) (mod-lt w h.unit_positive))
        ∙ digits_div (w / f.unit / f.span) l

-- a field that stands wholly below the one written is as it was
pub get_put_below : (f g : Field) (k v w : ℕ) → f.unit ≡ k * g.span * g.unit → Whole g → get g (put f v w) ≡ get g w
unfolding get
get_put_below f g k v w e h =
    ap (λ (x : ℕ). x / g.unit % g.span) (put_sum f v w)
    ∙ under (w / f.unit / f.span * f.span + v)
    ∙ sym (under (w / f.unit))
    ∙ ap (λ (x : ℕ). x / g.unit % g.span) (div-add-mod' w f.unit)
  where
    under : (a : ℕ) → (a * f.unit + w % f.unit) / g.unit % g.span ≡ w % f.unit / g.unit % g.span
    under a =
        ap (λ (x : ℕ). x / g.unit % g.span) (split a)
        ∙ ap (λ (x : ℕ). x % g.span) (add-mul-div_right (w % f.unit) (a * k * g.span) h.unit_positive)
        ∙ add-mul-mod_self_right (w % f.unit / g.unit) (a * k) g.span
      where
        split : (b : ℕ) → b * f.unit + w % f.unit ≡ w % f.unit + b * k * g.span * g.unit
        split b = omega (arith, ap (λ (x : ℕ). b * x) e)

-- a word with a value written into one of its fields is a word again
pub put_fits : (f : Field) (v w : ℕ) → Whole f → v < f.span → w < 65536 → put f v w < 65536
put_fits f v w h l b =
    omega (
      arith,
      put_sum f v w,
      mod-lt w h.unit_positive,
      mul-le-mul_right f.unit l,
      mul-le-mul_right (f.span * f.unit) below,
      whole,
    )
  where
    whole : 65536 / (f.span * f.unit) * (f.span * f.unit) ≡ 65536
    whole = omega (arith, div-add-mod' 65536 (f.span * f.unit), h.ends)

    below : w / f.unit / f.span < 65536 / (f.span * f.unit)
    below = (div-lt_iff_lt-mul h.span_positive).1 ((div-lt_iff_lt-mul h.unit_positive).1 (omega (arith, whole)))

-- a field made 0 leaves no more than there was
pub put_zero : (f : Field) (w : ℕ) → put f 0 w ≤ w
unfolding put
put_zero f w = omega arith
