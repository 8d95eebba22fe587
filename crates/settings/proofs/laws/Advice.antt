-- What to type instead of a setting that setup refuses.
--   step-some                      the words from one base to the next are some
--   advised_taken                  setup takes what is advised
--   advised_below, advised_last    its base is at or below the one typed, and no higher one there would do
--   advised_kept                   what setup takes is advised as it stands
-- Here, and not in specs/laws/Advice, is what rests on other laws of specs/: an edit of a definition counts as refused where nothing in specs/ rests on the
-- law that it breaks.
-- Assumes nothing.
use Rattle.std.specs.Prelude.{◌≡◌, refl, Bool, true, false, ◌↔◌, ℕ, ◌+◌, ◌-◌, ◌*◌, ◌/◌, ◌%◌, ◌<◌, ◌≤◌, ltb}
use Rattle.std.proofs.Common.{ap, ◌∙◌, div-add-mod', arith, ltb-true, ltb-false}
use Rattle.ground.specs.Choose.{pick}
use Rattle.interrupt.specs.declared.Kind.{Kind}
use Rattle.interrupt.specs.declared.Kind.TheVariants.{Eds8, MightyMux}
use Rattle.unit.specs.declared.mux.Setting.{Setting}
use Rattle.unit.specs.Refusals.{too_high, refusal, of_setup}
use Rattle.unit.specs.Sound.{IsBlock, SizeFits, BaseFits, AreaFits}
use Rattle.unit.specs.laws.Sound.{by_block}
use Rattle.unit.proofs.laws.Sound.{setup_iff}
use Rattle.unit.specs.laws.Location.{aligned_400}
use Rattle.settings.specs.Advice.{sizes_mended, in_memory, multiple_below, step_of, last_base, base_mended, with_base, lowered, advised}
use Rattle.settings.specs.laws.Advice.{block_kept, sized, ports_kept}

-- ---- the sizes

-- and so both, where both pass
sizes_kept : (s : Setting) → SizeFits s → sizes_mended s ≡ s
unfolding sizes_mended
sizes_kept s f = rw (block_kept s.block f.block, ports_kept s.ports f.some_port f.few_ports)

-- ---- the base

-- it is in the memory, at or below the one typed
in_memory_lem : (a : ℕ) → (in_memory a ≤ 32767) × (in_memory a ≤ a)
unfolding in_memory too_high pick
in_memory_lem a = go (ltb 32767 a) refl
  where
    go : (t : Bool) → ltb 32767 a ≡ t → (pick t 32767 a ≤ 32767) × (pick t 32767 a ≤ a)
    go true e = let h = ltb-true 32767 a e in (omega arith, omega arith)
    go false e = let h = ltb-false 32767 a e in (omega arith, omega arith)

-- and the last such
last_in_memory : (a x : ℕ) → x ≤ a → x ≤ 32767 → x ≤ in_memory a
unfolding in_memory too_high pick
last_in_memory a x h g = go (ltb 32767 a)
  where
    go : (t : Bool) → x ≤ pick t 32767 a
    go true = g
    go false = h

-- a setting with other sizes and another base
abbrev sized_at : Setting → ℕ → ℕ → ℕ → Setting
sized_at o b n a = record { kind = o.kind; block = b; ports = n; base = a; special = o.special }

-- the rows of the base and of the area pass
abbrev Area : Setting → ℕ → ℕ → ℕ → Type 0
Area o b n a = BaseFits (sized_at o b n a) × AreaFits (sized_at o b n a)

-- the words from one base of a kind of unit to the next; what holds of each of these beside its block size holds of any
by_step : (F : ℕ → ℕ → Type 0) → F 64 8 → F 128 16 → F 256 32 → F 256 8 → F 256 16 → (k : Kind) (b : ℕ) → IsBlock b → F (step_of k b) b
unfolding step_of
by_step F x y z v w Eds8 = by_block (λ b. F (8 * b) b) x y z
by_step F x y z v w MightyMux = by_block (λ b. F 256 b) v w z

-- a step has some words
pub step-some : (k : Kind) (b : ℕ) → IsBlock b → 0 < step_of k b
step-some = by_step (λ m b. 0 < m) (omega arith) (omega arith) (omega arith) (omega arith) (omega arith)

-- a multiple of the step is a base that rows 3 and 12 let pass, and no other is
abbrev Steps : Kind → ℕ → ℕ → Type 0
Steps k a b = (a % (8 * b) ≡ 0) × (k ≡ MightyMux → a % 256 ≡ 0)

on_step : (k : Kind) (a b : ℕ) → IsBlock b → (a % step_of k b ≡ 0) ↔ Steps k a b
unfolding step_of
on_step Eds8 a b i = (λ e. (e, λ h. cc), λ p. p.0)
on_step MightyMux a b i = (λ e. (aligned_400 a b i e, λ _. e), λ p. p.1 refl)

-- a stretch of 128 blocks that begins in the memory: an area in it begins in the memory and does not cross
abbrev Within : ℕ → ℕ → ℕ → ℕ → Type 0
Within n x k b =
    0 < n → k * (128 * b) ≤ x → x + n * b ≤ k * (128 * b) + 128 * b → k * (128 * b) ≤ 32767 → (x ≤ 32767) × (x / (128 * b) ≡ (x + n * b - 1) / (128 * b))

within : (n x k b : ℕ) → IsBlock b → Within n x k b
within n x k =
    by_block (Within n x k)
    (λ p f g l. (omega arith, omega arith))
    (λ p f g l. (omega arith, omega arith))
    (λ p f g l. (omega arith, omega arith))

-- so the rows pass of a multiple of the step there
stretch : (o : Setting) (n x k b : ℕ) → IsBlock b → 0 < n → x % step_of o.kind b ≡ 0 → k * (128 * b) ≤ x → x + n * b ≤ k * (128 * b) + 128 * b → k * (128 * b) ≤ 32767 → Area o b n x
stretch o n x k b i p m f g l =
    let w = within n x k b i p f g l in
    let s = (on_step o.kind x b i).0 m in
    (record { aligned = s.0; low = w.0; located = s.1 }, record { one = w.1 })

-- the multiple of the step at or below a word is not below the word's stretch
abbrev Near : ℕ → ℕ → ℕ → Type 0
Near a m b = (multiple_below m a % m ≡ 0) × (multiple_below (128 * b) a ≤ multiple_below m a)

near : (a : ℕ) (k : Kind) (b : ℕ) → IsBlock b → Near a (step_of k b) b
near a = by_step (Near a) (omega arith, omega arith) (omega arith, omega arith) (omega arith, omega arith) (omega arith, omega arith) (omega arith, omega arith)

-- the last base for n ports is such a multiple, and its area ends with the stretch or before
abbrev Last : ℕ → ℕ → ℕ → ℕ → Type 0
Last n a m b =
    n ≤ 128 → (last_base m b n a % m ≡ 0) × (last_base m b n a + n * b ≤ multiple_below (128 * b) a + 128 * b)

last : (n a : ℕ) (k : Kind) (b : ℕ) → IsBlock b → Last n a (step_of k b) b
last n a = by_step (Last n a) (λ q. (omega arith, omega arith)) (λ q. (omega arith, omega arith)) (λ q. (omega arith, omega arith)) (λ q. (omega arith, omega arith)) (λ q. (omega arith, omega arith))

-- so they pass of the first where it is below the second
near_area : (o : Setting) (b n a : ℕ) → IsBlock b → 0 < n → n ≤ 128 → a ≤ 32767 → multiple_below (step_of o.kind b) a < last_base (step_of o.kind b) b n a → Area o b n (multiple_below (step_of o.kind b) a)
near_area o b n a i p q l h =
    let d = div-add-mod' a (128 * b) in
    let m = near a o.kind b i in
    let r = last n a o.kind b i q in
    stretch o n (multiple_below (step_of o.kind b) a) (a / (128 * b)) b i p m.0 (omega arith) (omega arith) (omega arith)

-- and always of the second
last_area : (o : Setting) (b n a : ℕ) → IsBlock b → 0 < n → n ≤ 128 → a ≤ 32767 → Area o b n (last_base (step_of o.kind b) b n a)
last_area o b n a i p q l =
    let d = div-add-mod' a (128 * b) in
    let r = last n a o.kind b i q in
    stretch o n (last_base (step_of o.kind b) b n a) (a / (128 * b)) b i p r.0 (omega arith) (omega arith) (omega arith)

-- a multiple of the step at or below c is at or below the last; its place in its stretch of 128 blocks is one, too
abbrev Under : ℕ → ℕ → ℕ → ℕ → Type 0
Under x c m b = x % m ≡ 0 → (x ≤ c → x ≤ multiple_below m c) × (x % (128 * b) % m ≡ 0)

under : (x c : ℕ) (k : Kind) (b : ℕ) → IsBlock b → Under x c (step_of k b) b
under x c =
    by_step (Under x c)
    (λ e. (λ l. omega arith, omega arith))
    (λ e. (λ l. omega arith, omega arith))
    (λ e. (λ l. omega arith, omega arith))
    (λ e. (λ l. omega arith, omega arith))
    (λ e. (λ l. omega arith, omega arith))

-- an area that does not cross leaves room for itself in its stretch; the stretch of a word at or below a begins at or below a's
abbrev Room : ℕ → ℕ → ℕ → ℕ → Type 0
Room n a x b =
    0 < n → n ≤ 128 → x ≤ a → x / (128 * b) ≡ (x + n * b - 1) / (128 * b) → (x % (128 * b) ≤ (128 - n) * b) × (multiple_below (128 * b) x ≤ multiple_below (128 * b) a)

room : (n a x b : ℕ) → IsBlock b → Room n a x b
room n a x =
    by_block (Room n a x)
    (λ p q l o. (omega arith, omega arith))
    (λ p q l o. (omega arith, omega arith))
    (λ p q l o. (omega arith, omega arith))

-- so no base at or below a of which they pass is above either
not_above : (n a x : ℕ) (k : Kind) (b : ℕ) → IsBlock b → 0 < n → n ≤ 128 → x ≤ a → x % step_of k b ≡ 0 → x / (128 * b) ≡ (x + n * b - 1) / (128 * b) → (x ≤ multiple_below (step_of k b) a) × (x ≤ last_base (step_of k b) b n a)
not_above n a x k b i p q l m o =
    let d = div-add-mod' x (128 * b) in
    let u = under x a k b i m in
    let r = room n a x b i p q l o in
    let v = (under (x % (128 * b)) ((128 - n) * b) k b i u.1).0 r.0 in
    (u.0 l, omega arith)

-- what is said of the lower of the two: they pass, it is at or below the base typed, and no higher one passes there
record Mended (o : Setting) (b n a x : ℕ) : Type 0 where
  area : Area o b n x
  below : x ≤ a
  last : (y : ℕ) → y ≤ a → Area o b n y → y ≤ x

mended : (o : Setting) (b n a : ℕ) → IsBlock b → 0 < n → n ≤ 128 → Mended o b n a (base_mended (step_of o.kind b) b n a)
unfolding base_mended pick
mended o b n a i p q = go (ltb lower higher) refl
  where
    lower : ℕ
    lower = multiple_below (step_of o.kind b) (in_memory a)

    higher : ℕ
    higher = last_base (step_of o.kind b) b n (in_memory a)

    neither : (y : ℕ) → y ≤ a → Area o b n y → (y ≤ lower) × (y ≤ higher)
    neither y h r =
        not_above n (in_memory a) y o.kind b i p q (last_in_memory a y h r.0.low) ((on_step o.kind y b i).1 (r.0.aligned, r.0.located)) r.1.one

    go : (t : Bool) → ltb lower higher ≡ t → Mended o b n a (pick t lower higher)
    go true e =
        record {
          area = near_area o b n (in_memory a) i p q (in_memory_lem a).0 (ltb-true lower higher e);
          below = omega (arith, (in_memory_lem a).1);
          last = λ y h r. (neither y h r).0;
        }
    go false e =
        record {
          area = last_area o b n (in_memory a) i p q (in_memory_lem a).0;
          below = omega (arith, ltb-false lower higher e, (in_memory_lem a).1);
          last = λ y h r. (neither y h r).1;
        }

-- ---- what is advised

-- what is said of the base that is advised
based : (s : Setting) → Mended (sizes_mended s) (sizes_mended s).block (sizes_mended s).ports s.base (advised s).base
unfolding advised sizes_mended
based s = let f = sized s in mended (sizes_mended s) _ _ s.base f.block f.some_port f.few_ports

-- setup takes what is advised
pub advised_taken : (s : Setting) → refusal (of_setup (advised s)) ≡ 0
unfolding advised
advised_taken s =
    let f = sized s in
    let m = based s in
    let z : SizeFits (advised s) = record { block = f.block; some_port = f.some_port; few_ports = f.few_ports } in
    (setup_iff (advised s)).1 (record { size = z; base = m.area.0; area = m.area.1 })

-- it lowers the base or keeps it
pub advised_below : (s : Setting) → (advised s).base ≤ s.base
advised_below s = (based s).below

-- and no higher base, at or below the one typed, would do
pub advised_last : (s : Setting) (x : ℕ) → x ≤ s.base → refusal (of_setup (with_base (advised s) x)) ≡ 0 → x ≤ (advised s).base
unfolding advised
advised_last s x h e = let f = (setup_iff (with_base (advised s) x)).0 e in (based s).last x h (f.base, f.area)

-- what setup takes is advised as it stands
pub advised_kept : (s : Setting) → refusal (of_setup s) ≡ 0 → advised s ≡ s
unfolding advised
advised_kept s e =
    let f = (setup_iff s).0 e in
    let m = mended s s.block s.ports s.base f.size.block f.size.some_port f.size.few_ports in
    let b : base_mended (step_of s.kind s.block) s.block s.ports s.base ≡ s.base = omega (arith, m.below, m.last s.base (omega arith) (f.base, f.area)) in
    ap lowered (sizes_kept s f.size) ∙ ap (λ (a : ℕ). with_base s a) b
