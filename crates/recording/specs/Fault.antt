-- What a recording refuses, as the code has it, by its numbers (document 02, K8).
--   number_of, code_of   the number of a refusal; 0, or the number
--   Faults               the refusal of a number, if there is one
-- Not here: what is refused, in Event, Field, Scan and Pass.
-- Assumes nothing.
use Rattle.std.specs.Prelude.{◌≡◌, ℕ, Result, Ok, Err, ◌≢◌, MatchResult}
use Rattle.recording.specs.declared.fault.Fault.{Fault}
use Rattle.recording.specs.declared.fault.Fault.TheVariants.{UnknownTag, WrongLength, CutShort, NoRoom, BadValue}

-- an unknown tag; another length than the tag's; bytes missing; no room in what is lent; a value that may not stand there
abbrev pub number_of : Fault → ℕ
number_of UnknownTag = 13
number_of WrongLength = 14
number_of CutShort = 15
number_of NoRoom = 18
number_of BadValue = 21

-- the refusal of that number, or that number where none has it
abbrev pub Faults : ℕ → Result Fault ℕ → Type 0
Faults n r = MatchResult r (λ f. number_of f ≡ n) (λ k. (k ≡ n) × ((f : Fault) → number_of f ≢ n))

-- nothing is refused, or the number
abbrev pub code_of : {A : Type 0} → Result A Fault → ℕ
code_of (Ok x) = 0
code_of (Err f) = number_of f
