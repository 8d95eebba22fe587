-- Laws of the ports of a record.
--   held_inside, empty_inside       a port that holds a character, or whose transmitter is empty, is one of the array's
--   port_same, _other, _written     the port that was written, and every other port
--   OnlyPort                        two records that differ in one port at most
-- Not here: what a port is and where its control block lies, in specs/Record and laws/Sound.
-- Assumes nothing.
use Rattle.std.specs.Prelude.{◌≡◌, refl, Bool, true, false, ◌⊎◌, ℕ, ◌<◌, length, get_or, set}
use Rattle.std.proofs.Common.{sym, ◌∙◌, ap, inl, inr, arith, get_or-set_same, get_or-set_other}
use Rattle.std.proofs.Math.Decide.{dec_lt}
use Rattle.std.proofs.Math.ListN.{get_or-eq_default}
use Rattle.std.proofs.Math.Seq.{set_out}
use Rattle.unit.specs.declared.mux.Port.{Port}
use Rattle.unit.specs.declared.mux.Mux.{Mux}
use Rattle.unit.specs.Record.{no_port, port_at, with_port}

-- what is true of a port and of no port of zeros is true of one of the array's
inside : (u : Mux) (p : ℕ) (f : Port → Bool) → f no_port ≡ false → f (port_at u p) ≡ true → p < length u.port
unfolding port_at
inside u p f z e = go (dec_lt p (length u.port))
  where
    go : Dec (p < length u.port) → p < length u.port
    go (yes h) = h
    go (no h) =
        let d : get_or u.port p no_port ≡ no_port = get_or-eq_default u.port no_port (omega arith) in
        let c : true ≡ false = sym e ∙ ap f d ∙ z in
        let x : ◌≡◌ {A = ℕ} 0 1 = cc in
        omega arith

-- a port that holds a character is one of the array's
pub held_inside : (u : Mux) (p : ℕ) → (port_at u p).held ≡ true → p < length u.port
held_inside u p e = inside u p (λ q. q.held) refl e

-- a port whose transmitter is empty is one of the array's
pub empty_inside : (u : Mux) (p : ℕ) → (port_at u p).empty ≡ true → p < length u.port
empty_inside u p e = inside u p (λ q. q.empty) refl e

-- the port that was written
pub port_same : (u v : Mux) (p : ℕ) (q : Port) → v.port ≡ set u.port p q → p < length u.port → port_at v p ≡ q
unfolding port_at
port_same u v p q e h = ap (λ l. get_or l p no_port) e ∙ get_or-set_same u.port p q no_port h

-- every other port
pub port_other : (u v : Mux) (p : ℕ) (q : Port) → v.port ≡ set u.port p q → (r : ℕ) → (r ≡ p → ⊥) → port_at v r ≡ port_at u r
unfolding port_at
port_other u v p q e r h = ap (λ l. get_or l r no_port) e ∙ get_or-set_other u.port p r q no_port h

-- a port that was written is what was written, or the array has no such port and it is as it was
pub port_written : (u v : Mux) (p : ℕ) (q : Port) → v.port ≡ set u.port p q → (port_at v p ≡ q) ⊎ (port_at v p ≡ port_at u p)
unfolding port_at
port_written u v p q e = go (dec_lt p (length u.port))
  where
    go : Dec (p < length u.port) → (port_at v p ≡ q) ⊎ (port_at v p ≡ port_at u p)
    go (yes h) = inl (port_same u v p q e h)
    go (no h) = inr (ap (λ l. get_or l p no_port) (e ∙ set_out u.port p q (omega arith)))

-- v is u but for port p: setting, position, unit, clock, interrupt side and every other port as they were
pub record OnlyPort (p : ℕ) (u v : Mux) : Type 0 where
  pub setting : v.setting ≡ u.setting
  pub pos : v.pos ≡ u.pos
  pub runs : v.runs ≡ u.runs
  pub clock : v.clock ≡ u.clock
  pub irq : v.irq ≡ u.irq
  pub others : (r : ℕ) → (r ≡ p → ⊥) → port_at v r ≡ port_at u r

-- the record with another port in the place of p is such a one
pub only_port : (u : Mux) (p : ℕ) (q : Port) → OnlyPort p u (with_port u p q)
only_port u p q =
    record {
      setting = refl;
      pos = refl;
      runs = refl;
      clock = refl;
      irq = refl;
      others = port_other u (with_port u p q) p q refl;
    }
