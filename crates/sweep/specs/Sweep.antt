-- A sweep (document 01, Sweep).
--   Going            a sweep on its way: the counts, the record, the memory and the list
--   entry_of          a byte handed over as the list has it
--   entered, going   one inspection more
--   sweep_from        as many inspections as the rule asks
--   sweep            the call, with its refusals
-- Not here: what follows, in laws/Sweep.
-- Assumes nothing.
use Rattle.std.specs.Prelude.{◌≡◌, List, ℕ, zero, suc, ◌+◌, ◌*◌, eqb, set}
use Rattle.ground.specs.Choose.{pick, bit}
use Rattle.unit.specs.declared.mux.Mux.{Mux}
use Rattle.unit.specs.Reply.{Answer}
use Rattle.unit.specs.Reply.{Replied}
use Rattle.unit.specs.Reply.{nothing, refused, Looked, Outcome, outcome}
use Rattle.unit.specs.Refusals.{refusal, of_sweep}
use Rattle.scan.specs.Scan.{inspection}

-- a sweep on its way: inspections made, list places used, the record, the memory, the list
pub record Going : Type 0 where
  pub made : ℕ
  pub used : ℕ
  pub mux : Mux
  pub memory : List ℕ
  pub list : List ℕ

-- a byte handed over as the list has it
unfoldable pub entry_of : Answer → ℕ
entry_of a = a.port * 256 + a.byte

-- the list with what an inspection handed over in its next free place
unfoldable pub entered : Answer → ℕ → List ℕ → List ℕ
entered a used xs = pick a.sent (set xs used (entry_of a)) xs

-- what entering leaves: how many places are used, and the list
pub record Entered (a : Answer) (used : ℕ) (xs : List ℕ) (r : ℕ) (ys : List ℕ) : Type 0 where
  pub places : r ≡ used + bit a.sent
  pub list : ys ≡ entered a used xs

-- one inspection more
unfoldable pub going : Going → Looked → Going
going s l =
    let a = l.reply.answer in
    record {
      made = s.made + 1;
      used = s.used + bit a.sent;
      mux = l.world.mux;
      memory = l.world.memory;
      list = entered a s.used s.list;
    }

-- n inspections, or fewer only because one raised an interrupt; a stopped unit makes none
unfoldable pub sweep_from : ℕ → Going → Going
sweep_from zero s = s
sweep_from (suc n) s =
    let l = inspection s.mux s.memory in
    let more = sweep_from n (going s l) in
    pick s.mux.runs (pick l.reply.answer.raised (going s l) more) s

-- where a sweep starts
abbrev pub set_out : Mux → List ℕ → List ℕ → Going
set_out u m xs = record { made = 0; used = 0; mux = u; memory = m; list = xs }

-- what a sweep answers that is not refused: how many inspections it made, how many list places it used
abbrev pub swept : ℕ → ℕ → Mux → Replied
swept made used u =
    record { reply = record { code = 0; value = 0; answer = nothing; made = made; used = used }; mux = u }

-- a sweep that has come to its end
abbrev pub arrived_at : Going → Outcome
arrived_at s = outcome (swept s.made s.used s.mux) s.memory s.list

-- a sweep of n inspections with the list xs
unfoldable pub sweep : Mux → List ℕ → ℕ → List ℕ → Outcome
sweep u m n xs =
    let k = refusal (of_sweep u m n xs) in
    pick (eqb k 0) (arrived_at (sweep_from n (set_out u m xs))) (outcome (refused k u) m xs)
