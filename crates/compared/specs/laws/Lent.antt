-- What is lent of a list, and the rest behind it.
--   take_most, drop_most   no more is lent than there is
--   lent_back_lem              a call on what is lent
--   part_most, rest_most   the same from a place on
--   lent_put               a frame written into what is lent
-- Not here: what a call on what is lent leaves, in Session.
-- Assumes nothing.
use Rattle.std.specs.Prelude.{◌≡◌, List, [], ◌∷◌, ◌++◌, ℕ, zero, suc, ◌+◌, ◌-◌, min, length, take, drop}
use Rattle.std.proofs.Common.{ap, arith, length-drop}
use Rattle.std.proofs.Math.Nat.{suc-min-suc, min-zero, zero-min}
use Rattle.framing.specs.declared.form.Form.{Form}
use Rattle.framing.specs.Write.{Written, Wrote, wrote, write_frame}
use Rattle.unit.specs.Reply.{Replied, world, outcome, Outcome}
use Rattle.calls.specs.declared.call.Call.{Call}
use Rattle.calls.specs.Calls.{step}
use Rattle.compared.specs.Desk.{Kept}
use Rattle.compared.specs.Frames.{put_part, write_lent}
use Rattle.compared.specs.Session.{lent_back, called_lent}

pub take_most : (k : ℕ) (xs : List ℕ) → take (min k (length xs)) xs ≡ take k xs
take_most zero xs = rw (zero-min (length xs))
take_most (suc k) [] = rw (min-zero (suc k))
take_most (suc k) (x ∷ xs) = rw (suc-min-suc k (length xs)) (ap (λ (ys : List ℕ). x ∷ ys) (take_most k xs))

pub drop_most : (k : ℕ) (xs : List ℕ) → drop (min k (length xs)) xs ≡ drop k xs
drop_most zero xs = rw (zero-min (length xs))
drop_most (suc k) [] = rw (min-zero (suc k))
drop_most (suc k) (x ∷ xs) = rw (suc-min-suc k (length xs)) (drop_most k xs)

-- a call on what is lent, as the code counts it
pub lent_back_lem : (k : Kept) (c : Call) (r : Replied) (m xs : List ℕ) (i j : ℕ) → i ≡ min k.desk.words (length k.memory) → j ≡ min k.desk.places (length k.list) → outcome r m xs ≡ step (world k.desk.unit (take i k.memory)) (take j k.list) c → outcome r (m ++ drop i k.memory) (xs ++ drop j k.list) ≡ called_lent k c
unfolding called_lent
lent_back_lem k c r m xs i j p q e =
    rw (p, q, drop_most k.desk.words k.memory, drop_most k.desk.places k.list)
    (ap (λ (o : Outcome). lent_back o (drop k.desk.words k.memory) (drop k.desk.places k.list))
    (rw (p, q, take_most k.desk.words k.memory, take_most k.desk.places k.list) at e))

-- k are lent from a place on, as the code counts them: from a up to e
module _ (xs : List ℕ) (from k a e : ℕ) (p : a ≡ min from (length xs)) (q : e ≡ min (from + k) (length xs)) where
  count : e - a ≡ min k (length (drop from xs))
  count = rw length-drop (omega arith)

  pub part_most : take (e - a) (drop a xs) ≡ take k (drop from xs)
  part_most = rw (count, p, drop_most from xs) (take_most k (drop from xs))

  pub rest_most : drop (e - a) (drop a xs) ≡ drop k (drop from xs)
  rest_most = rw (count, p, drop_most from xs) (drop_most k (drop from xs))

  pub lent_put : (f : Form) (c : ℕ) (r : Written) (ys : List ℕ) → wrote r ys ≡ write_frame f c (take (e - a) (drop a xs)) → wrote r (take a xs ++ (ys ++ drop (e - a) (drop a xs))) ≡ write_lent f c xs from k
  unfolding write_lent
  lent_put f c r ys g =
      rw (rest_most, p, take_most from xs) (ap (λ (w : Wrote). put_part xs from k w) (rw part_most at g))
