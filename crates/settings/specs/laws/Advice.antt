-- What to type instead of a setting that setup refuses.
--   sized                          the mended sizes pass
--   advised_block, advised_ports   a size that passes is kept, whatever else is wrong
--   any-set                        setup's number and what is advised are the same, whatever set of special codes a school chooses (document 02, K5)
--   advised_was, eds8_advised       what was advised before K7, for this comparison alone: of an EDS-8 nothing changed
--   advised_kind                   the kind is kept
-- In proofs/laws/Advice, since they rest on these: step-some, advised_taken, advised_below, advised_last, advised_kept.
-- Not here: what is advised, in specs/Advice.
-- Assumes nothing.
use Rattle.std.specs.Prelude.{◌≡◌, refl, Bool, true, false, List, ℕ, ◌+◌, ◌-◌, ◌*◌, ◌/◌, ◌<◌, ◌≤◌, eqb, ltb}
use Rattle.std.proofs.Common.{arith, ltb-false, ne_eqb, le-ltb}
use Rattle.std.proofs.lemmas.Bool.{eqb-false}
use Rattle.ground.specs.Choose.{pick}
use Rattle.interrupt.specs.declared.Kind.TheVariants.{Eds8}
use Rattle.unit.specs.declared.mux.Setting.{Setting}
use Rattle.unit.specs.Refusals.{MOST-PORTS, refusal, of_setup}
use Rattle.unit.specs.Sound.{IsBlock, eight, sixteen, thirty_two, SizeFits}
use Rattle.unit.specs.laws.Sound.{by_block}
use Rattle.unit.specs.laws.Set.{choosing, refusal_unread}
use Rattle.settings.specs.Advice.{block_mended, ports_mended, sizes_mended, in_memory, multiple_below, step_of, last_base, base_mended, with_base, advised}

-- ---- the sizes

-- a mended block size is one
block_fits : (b : ℕ) → IsBlock (block_mended b)
unfolding block_mended pick
block_fits b = go (eqb b 8) (eqb b 16)
  where
    go : (t k : Bool) → IsBlock (pick t 8 (pick k 16 32))
    go true k = eight refl
    go false true = sixteen refl
    go false false = thirty_two refl

-- and a block size is kept
pub block_kept : (b : ℕ) → IsBlock b → block_mended b ≡ b
unfolding block_mended pick
block_kept = by_block (λ b. block_mended b ≡ b) refl refl refl

-- a mended number of ports is one
ports_fit : (n : ℕ) → (0 < ports_mended n) × (ports_mended n ≤ 128)
unfolding ports_mended pick
ports_fit n = go (eqb n 0) (ltb MOST-PORTS n) refl refl
  where
    go : (z m : Bool) → eqb n 0 ≡ z → ltb MOST-PORTS n ≡ m → (0 < pick z 1 (pick m MOST-PORTS n)) × (pick z 1 (pick m MOST-PORTS n) ≤ 128)
    go true m e f = (omega arith, omega arith)
    go false true e f = (omega arith, omega arith)
    go false false e f = let h = eqb-false n 0 e in (omega arith, ltb-false 128 n f)

-- the mended sizes pass
pub sized : (s : Setting) → SizeFits (sizes_mended s)
unfolding sizes_mended
sized s =
    let p = ports_fit s.ports in
    record { block = block_fits s.block; some_port = p.0; few_ports = p.1 }

-- a number of ports that passes is kept
pub ports_kept : (n : ℕ) → 0 < n → n ≤ 128 → ports_mended n ≡ n
unfolding ports_mended pick
ports_kept n p q = let z : n ≡ 0 → ⊥ = λ e. omega (arith, e) in rw (ne_eqb n 0 z, le-ltb 128 n q)

-- ---- what is advised

-- a size that passes is kept, whatever else is wrong
pub advised_block : (s : Setting) → IsBlock s.block → (advised s).block ≡ s.block
unfolding advised sizes_mended
advised_block s i = block_kept s.block i

pub advised_ports : (s : Setting) → 0 < s.ports → s.ports ≤ 128 → (advised s).ports ≡ s.ports
unfolding advised sizes_mended
advised_ports s p q = ports_kept s.ports p q

-- a set is neither refused nor changed
pub any-set : (codes : List Bool) (s : Setting) → (refusal (of_setup (choosing codes s)) ≡ refusal (of_setup s)) × (advised (choosing codes s) ≡ choosing codes (advised s))
unfolding advised sizes_mended
any-set codes s = (refusal_unread codes codes (of_setup s), refl)

-- a kind is kept
pub advised_kind : (s : Setting) → (advised s).kind ≡ s.kind
unfolding advised sizes_mended
advised_kind s = refl

-- ---- an EDS-8's advice as it was

-- the last base for n ports
abbrev last_base_was : ℕ → ℕ → ℕ → ℕ
last_base_was b n a = multiple_below (128 * b) a + (128 - n) / 8 * (8 * b)

-- and what was advised
unfoldable pub advised_was : Setting → Setting
advised_was s = with_base (sizes_mended s) (mended_was (sizes_mended s).block (sizes_mended s).ports (in_memory s.base))
  where
    mended_was : ℕ → ℕ → ℕ → ℕ
    mended_was b n a = pick (ltb (multiple_below (8 * b) a) (last_base_was b n a)) (multiple_below (8 * b) a) (last_base_was b n a)

-- the last base is the same
abbrev SameLast : ℕ → ℕ → ℕ → Type 0
SameLast n a b = n ≤ 128 → last_base (8 * b) b n a ≡ last_base_was b n a

same_last : (n a b : ℕ) → IsBlock b → SameLast n a b
same_last n a = by_block (SameLast n a) (λ q. omega arith) (λ q. omega arith) (λ q. omega arith)

-- so nothing that an EDS-8's caretaker is told changed
pub eds8_advised : (s : Setting) → s.kind ≡ Eds8 → advised s ≡ advised_was s
unfolding advised advised_was sizes_mended base_mended step_of
eds8_advised s k =
    let f = sized s in
    rw (k, same_last (ports_mended s.ports) (in_memory s.base) (block_mended s.block) f.block f.few_ports)
