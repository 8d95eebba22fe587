-- Bytes put into a list from a place on.
--   pasted_length        the list is as long as it was
--   pasted_none          no byte
--   pasted_then          more bytes behind them
--   put_none, put_byte, put_then, put_rule, put_last   the same with the place after them
-- Not here: which bytes, in Field.
-- Assumes nothing.
use Rattle.std.specs.Prelude.{◌≡◌, ℕ, ◌+◌, ◌<◌, ◌≤◌, List, [], ◌∷◌, ◌++◌, length, take, drop, slice_set, refl}
use Rattle.std.proofs.Common.{sym, ◌∙◌, ap, subst, append_assoc, add-zero, add_assoc, add-one, arith, length-append, length-drop, length-set, take-append-drop, length-take-le, take_at, drop_at, drop-drop}
use Rattle.std.proofs.lemmas.List.{set_split}
use Rattle.ground.specs.Tab.{tab}
use Rattle.ground.specs.laws.Arrays.{tab_length, tab_last}
use Rattle.recording.specs.Field.{pasted, Put}

module _ (at : ℕ) (xs out : List ℕ) (h : at + length xs ≤ length out) where
  -- the part up to their end, and how long it is
  abbrev front : List ℕ
  front = take at out ++ xs

  front_length : length front ≡ at + length xs
  front_length = length-append (take at out) xs ∙ ap (λ (k : ℕ). k + length xs) (length-take-le at out (omega (arith, h)))

  abbrev rest : List ℕ
  rest = drop (at + length xs) out

  as_front : pasted at xs out ≡ front ++ rest
  as_front = sym (append_assoc (take at out) xs rest)

  pub pasted_length : length (pasted at xs out) ≡ length out
  pasted_length =
      ap length as_front ∙ length-append front rest ∙
      omega (arith, h, front_length, length-drop (at + length xs) out)

  -- more bytes behind them
  pub pasted_then : (ys : List ℕ) → pasted (at + length xs) ys (pasted at xs out) ≡ pasted at (xs ++ ys) out
  pasted_then ys =
      let n = at + length xs in
      let taken : take n (pasted at xs out) ≡ front = ap (λ (zs : List ℕ). take n zs) as_front ∙ take_at front rest n front_length in
      let left : drop n (pasted at xs out) ≡ rest = ap (λ (zs : List ℕ). drop n zs) as_front ∙ drop_at front rest n front_length in
      let past : drop (n + length ys) (pasted at xs out) ≡ drop (n + length ys) out =
      sym (drop-drop (length ys) n (pasted at xs out)) ∙ ap (λ (zs : List ℕ). drop (length ys) zs) left ∙ drop-drop (length ys) n out
      in
      let far : n + length ys ≡ at + length (xs ++ ys) = add_assoc at (length xs) (length ys) ∙ ap (λ (k : ℕ). at + k) (sym (length-append xs ys)) in
      ap (λ (zs : List ℕ). zs ++ (ys ++ drop (n + length ys) (pasted at xs out))) taken ∙
      ap (λ (zs : List ℕ). front ++ (ys ++ zs)) (past ∙ ap (λ (k : ℕ). drop k out) far) ∙
      append_assoc (take at out) xs (ys ++ drop (at + length (xs ++ ys)) out) ∙
      ap (λ (zs : List ℕ). take at out ++ zs) (sym (append_assoc xs ys (drop (at + length (xs ++ ys)) out)))

pub pasted_none : (at : ℕ) (out : List ℕ) → pasted at [] out ≡ out
pasted_none at out = ap (λ (k : ℕ). take at out ++ drop k out) (add-zero at) ∙ take-append-drop at out

pub put_none : (at : ℕ) (out : List ℕ) → Put [] at out at out
put_none at out = record { next = sym (add-zero at); bytes = sym (pasted_none at out); same = refl }

-- one byte: a store is a cut and a paste
pub put_byte : (out : List ℕ) (at b : ℕ) → at < length out → Put (b ∷ []) at out (at + 1) (slice_set out at b)
put_byte out at b h =
    record {
      next = refl;
      bytes = set_split out at b h ∙ ap (λ (k : ℕ). take at out ++ (b ∷ drop k out)) (sym (add-one at));
      same = length-set out at b;
    }

-- one after the other
pub put_then : (xs ys : List ℕ) (at : ℕ) (out : List ℕ) (m r : ℕ) (mid after : List ℕ) → at + length xs ≤ length out → Put xs at out m mid → Put ys m mid r after → Put (xs ++ ys) at out r after
put_then xs ys at out m r mid after h p q =
    record {
      next = omega (arith, p.next, q.next, length-append xs ys);
      bytes = q.bytes ∙ ap (λ (k : ℕ). pasted k ys mid) p.next ∙ ap (λ (zs : List ℕ). pasted (at + length xs) ys zs) p.bytes ∙ pasted_then at xs out h ys;
      same = q.same ∙ p.same;
    }

-- one more place by a rule
pub put_rule : (f : ℕ → ℕ) (at : ℕ) (out mid : List ℕ) (k : ℕ) → at + k < length out → Put (tab k f) at out (at + k) mid → Put (tab (k + 1) f) at out (at + (k + 1)) (slice_set mid (at + k) (f k))
put_rule f at out mid k l p =
    let far : length (tab k f) ≡ k = tab_length k f in
    let on : at + k + 1 ≡ at + (k + 1) = omega arith in
    subst (λ (ys : List ℕ). Put ys at out (at + (k + 1)) (slice_set mid (at + k) (f k))) (sym (ap (λ (m : ℕ). tab m f) (add-one k) ∙ tab_last k f))
    (subst (λ (m : ℕ). Put (tab k f ++ (f k ∷ [])) at out m (slice_set mid (at + k) (f k))) on
    (put_then (tab k f) (f k ∷ []) at out (at + k) (at + k + 1) mid (slice_set mid (at + k) (f k)) (omega (arith, far, l)) p (put_byte mid (at + k) (f k) (omega (arith, l, p.same)))))

-- and what is put last
pub put_last : (xs ys : List ℕ) (at : ℕ) (out : List ℕ) (m : ℕ) (mid after : List ℕ) → at + length xs ≤ length out → Put xs at out m mid → after ≡ pasted m ys mid → after ≡ pasted at (xs ++ ys) out
put_last xs ys at out m mid after h p e = e ∙ ap (λ (k : ℕ). pasted k ys mid) p.next ∙ ap (λ (zs : List ℕ). pasted (at + length xs) ys zs) p.bytes ∙ pasted_then at xs out h ys
