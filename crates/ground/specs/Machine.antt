-- Any machine: states, acts, and a step from a state by an act to the next state.
--   run, total, tally    the state after a list of acts; the sum of a number for each act; how many acts pass a test on the state they meet
--   gather               what each act gives, one after the other
--   Throughout, Until    what holds of every state met; an act of the list, up to which it holds
--   Every                what holds of every act where it is met
-- Not here: what follows, in laws/Machine.
-- Assumes nothing.
use Rattle.std.specs.Prelude.{◌≡◌, Bool, List, [], ◌∷◌, ◌++◌, ℕ, ◌+◌}
use Rattle.ground.specs.Choose.{bit}

module _ {S A : Type 0} (step : S → A → S) where
  -- the state after a list of acts, each on the state that the one before left
  unfoldable pub run : S → List A → S
  run s [] = s
  run s (a ∷ xs) = run (step s a) xs

  -- the sum of a number for each act and the state it meets
  unfoldable pub total : (S → A → ℕ) → S → List A → ℕ
  total f s [] = 0
  total f s (a ∷ xs) = f s a + total f (step s a) xs

  -- how many acts pass a test on the state that they meet
  abbrev pub tally : (S → A → Bool) → S → List A → ℕ
  tally t s xs = total (λ r a. bit (t r a)) s xs

  -- what each act gives at the state it meets, one after the other
  unfoldable pub gather : {B : Type 0} → (S → A → List B) → S → List A → List B
  gather f s [] = []
  gather f s (a ∷ xs) = f s a ++ gather f (step s a) xs

  -- C holds of every state met, the first and the last among them
  abbrev pub Throughout : (S → Type 0) → S → List A → Type 0
  Throughout C s [] = C s
  Throughout C s (a ∷ xs) = C s × Throughout C (step s a) xs

  -- C holds of every act at the state it meets
  abbrev pub Every : (S → A → Type 0) → S → List A → Type 0
  Every C s [] = Unit {0}
  Every C s (a ∷ xs) = C s a × Every C (step s a) xs

  -- an act of the list, with C of every state met before it
  pub record Until (C : S → Type 0) (s : S) (xs : List A) : Type 0 where
    pub before : List A
    pub here : A
    pub later : List A
    pub whole : xs ≡ before ++ (here ∷ later)
    pub meanwhile : Throughout C s before
