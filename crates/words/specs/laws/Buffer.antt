-- A buffer ends (document 02, K2), for input and output alike: what a service reads of its buffer, and services one after the other.
--   Buffer, room    the control word, the pointer and the end; how many services end it at most: max(1, end − pointer)
--   Steps, falls    a service that goes on: the pointer one on, with no jump to 0, and end − pointer one less
--   Follow, left    services one after the other, each finding its buffer as the one before left it; the buffer after the last
--   Serves, ends    if every service ends an open buffer or goes on, as many services as its room end it
-- Not here: that the services are such, in laws/Ends of input and of output; when the end is reached, in Pointer.
-- Assumes nothing.
use Rattle.std.specs.Prelude.{◌≡◌, ℕ, ◌+◌, ◌-◌, ◌<◌, ◌≤◌, max, ◌⊎◌, List, [], ◌∷◌, length}
use Rattle.std.proofs.Common.{sym, subst, inl, inr, arith}
use Rattle.ground.specs.Machine.{run, Every}

-- what a service reads of its buffer: ICW, IBP and LIB, or OCW, OBP and LOB
pub record Buffer : Type 0 where
  pub control : ℕ
  pub pointer : ℕ
  pub end : ℕ

-- how many services it takes at most: its bytes, and 1 where it is set up too short
abbrev pub room : Buffer → ℕ
room b = max 1 (b.end - b.pointer)

-- a service that is not the last, by what it finds and what it leaves
pub record Steps (b c : Buffer) : Type 0 where
  pub below : b.pointer + 1 < b.end
  pub pointer : c.pointer ≡ b.pointer + 1
  pub end : c.end ≡ b.end

-- the bytes that are left fall by one
pub falls : (b c : Buffer) → Steps b c → (c.end - c.pointer) + 1 ≡ b.end - b.pointer
falls b c s = omega (arith, s.below, s.pointer, s.end)

-- what every service does: a buffer that is done stays done, and an open one is then done or goes on and stays open
pub record Serves (Open Done : Buffer → Type 0) (b c : Buffer) : Type 0 where
  pub stays : Done b → Done c
  pub goes : Open b → Done c ⊎ (Open c × Steps b c)

-- services of some kind, each with the buffer that it finds and the one that it leaves
module _ {A : Type 0} (found leaves : A → Buffer) where
  -- each finds the buffer as the one before left it, and the first as it is given
  abbrev pub Follow : Buffer → List A → Type 0
  Follow b vs = Every (λ c v. leaves v) (λ c v. found v ≡ c) b vs

  -- the buffer after the last
  abbrev pub left : Buffer → List A → Buffer
  left b vs = run (λ c v. leaves v) b vs

  module _ (Open Done : Buffer → Type 0) (each : (v : A) → Serves Open Done (found v) (leaves v)) where
    stay : (b : Buffer) (vs : List A) → Follow b vs → Done b → Done (left b vs)
    unfolding run
    stay b [] f d = d
    stay b (v ∷ vs) f d = stay (leaves v) vs f.1 ((each v).stays (subst Done (sym f.0) d))

    -- as many services as the room, or more, end an open buffer
    pub ends : (b : Buffer) (vs : List A) → Follow b vs → Open b → room b ≤ length vs → Done (left b vs)
    unfolding run
    ends b [] f o h = absurd (omega (arith, h))
    ends b (v ∷ vs) f o h = by (ends (leaves v) vs f.1) ((each v).goes (subst Open (sym f.0) o))
      where
        by : (Open (leaves v) → room (leaves v) ≤ length vs → Done (left (leaves v) vs)) → Done (leaves v) ⊎ (Open (leaves v) × Steps (found v) (leaves v)) → Done (left (leaves v) vs)
        by rest (inl d) = stay (leaves v) vs f.1 d
        by rest (inr g) = rest g.0 (omega (arith, h, rw f.0 at g.1.below, rw f.0 at g.1.pointer, rw f.0 at g.1.end))
