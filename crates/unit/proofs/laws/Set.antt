-- The set of special codes in a setting and in a record (document 02, K5): setup keeps it, and no refusal asks it.
--   setup_unread       setups with different sets give the same reply, and records that differ in the set alone
--   setup_keeps        a setup that is not refused makes a record with the set that it was given
--   refused_ordinary   a refused one gives the record of zeros, in which no code is special
-- Here, and not in specs/laws/Set, is what rests on other laws of specs/: an edit of a definition counts as refused where nothing in specs/ rests on the
-- law that it breaks.
-- Assumes nothing.
use Rattle.std.specs.Prelude.{◌≡◌, Bool, false, List, ℕ, ◌%◌}
use Rattle.std.proofs.Common.{ap, ◌∙◌, arith}
use Rattle.std.proofs.Math.Decide.{ℕ_discrete}
use Rattle.std.proofs.lemmas.List.{get_or-replicate}
use Rattle.words.specs.Special.{special_in}
use Rattle.unit.specs.declared.mux.Setting.{Setting}
use Rattle.unit.specs.Reply.{Replied}
use Rattle.unit.specs.Refusals.{refusal, of_setup}
use Rattle.unit.specs.Setup.{setup}
use Rattle.unit.proofs.laws.Replies.{setup_accepted, setup_refused}
use Rattle.unit.specs.laws.Set.{choosing, chosen, refusal_unread}

-- ---- setup keeps it

-- the record has the set that setup was given
pub setup_keeps : (s : Setting) → refusal (of_setup s) ≡ 0 → (setup s).mux.setting.special ≡ s.special
setup_keeps s e = ap (λ (r : Replied). r.mux.setting.special) (setup_accepted s e)

-- the reply is that of any other set; so is the record, but for the set
pub setup_unread : (codes : List Bool) (s : Setting) → ((setup (choosing codes s)).reply ≡ (setup s).reply) × (refusal (of_setup s) ≡ 0 → (setup (choosing codes s)).mux ≡ chosen codes (setup s).mux)
setup_unread codes s = (by (ℕ_discrete (refusal (of_setup s)) 0), λ e. rw (setup_accepted s e, setup_accepted (choosing codes s) (same ∙ e)))
  where
    same : refusal (of_setup (choosing codes s)) ≡ refusal (of_setup s)
    same = refusal_unread codes codes (of_setup s)

    by : Dec (refusal (of_setup s) ≡ 0) → (setup (choosing codes s)).reply ≡ (setup s).reply
    by (yes e) = rw (setup_accepted s e, setup_accepted (choosing codes s) (same ∙ e))
    by (no n) = rw (setup_refused s n, setup_refused (choosing codes s) (λ e. n (rw same at e)), same)

-- a refused setup gives zeros, the set among them
pub refused_ordinary : (s : Setting) (c : ℕ) → (refusal (of_setup s) ≡ 0 → ⊥) → special_in (setup s).mux.setting.special c ≡ false
unfolding special_in
refused_ordinary s c n = rw (setup_refused s n) (get_or-replicate 128 (c % 128) false false (omega arith))
