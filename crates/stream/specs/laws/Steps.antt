-- One byte, and the end: each branch of the definitions.
--   took_first, took_on, took_none   a byte begins a field, goes to one that is cut short, or changes nothing
--   grown_longer, grown_none   it has a place, or none
--   ended_good, ended_bad   the two answers
-- Not here: one byte after the other, in Stands.
-- Assumes nothing.
use Rattle.std.specs.Prelude.{◌≡◌, ℕ, ◌<◌, ◌≤◌, ◌==◌, ◌≢◌, nat_lt}
use Rattle.std.proofs.Common.{◌∙◌, arith, eq-eqb, ne_eqb, lt-ltb, le-ltb}
use Rattle.ground.specs.Choose.{pick}
use Rattle.ground.specs.laws.Rows.{pick_true, pick-false}
use Rattle.recording.specs.Event.{CUT-SHORT}
use Rattle.recording.specs.Scan.{done}
use Rattle.stream.specs.declared.Stream.{Stream}
use Rattle.stream.specs.Stream.{LONGEST, opened, longer, grown, took, ended}

module _ (s : Stream) (b : ℕ) where
  -- a field that is not whole goes on, or nothing does
  abbrev on : Stream
  on = pick (s.code == CUT-SHORT) (grown s b) s

  pub took_first : s.code ≡ 0 → took s b ≡ opened s b
  unfolding took
  took_first e = pick_true (s.code == 0) (opened s b) on (eq-eqb s.code 0 e)

  not_first : (s.code ≢ 0) → took s b ≡ on
  unfolding took
  not_first n = pick-false (s.code == 0) (opened s b) on (ne_eqb s.code 0 n)

  pub took_on : s.code ≡ CUT-SHORT → took s b ≡ grown s b
  took_on e = not_first (λ z. omega (arith, e, z)) ∙ pick_true (s.code == CUT-SHORT) (grown s b) s (eq-eqb s.code CUT-SHORT e)

  pub took_none : (s.code ≢ 0) → (s.code ≢ CUT-SHORT) → took s b ≡ s
  took_none n m = not_first n ∙ pick-false (s.code == CUT-SHORT) (grown s b) s (ne_eqb s.code CUT-SHORT m)

  pub grown_longer : s.fill < LONGEST → grown s b ≡ longer s b
  unfolding grown
  grown_longer h = pick_true (nat_lt s.fill LONGEST) (longer s b) s (lt-ltb s.fill LONGEST h)

  pub grown_none : LONGEST ≤ s.fill → grown s b ≡ s
  unfolding grown
  grown_none h = pick-false (nat_lt s.fill LONGEST) (longer s b) s (le-ltb s.fill LONGEST h)

pub ended_good : (s : Stream) → s.code ≡ 0 → ended s ≡ done 0 0 s.count
unfolding ended
ended_good s e = pick_true (s.code == 0) (done 0 0 s.count) (done s.code s.at 0) (eq-eqb s.code 0 e)

pub ended_bad : (s : Stream) → (s.code ≢ 0) → ended s ≡ done s.code s.at 0
unfolding ended
ended_bad s n = pick-false (s.code == 0) (done 0 0 s.count) (done s.code s.at 0) (ne_eqb s.code 0 n)
