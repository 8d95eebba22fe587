-- The tags, as the code has them, by their numbers (document 02, K8).
--   tag_number, Tags   the number of a tag; the tag of a number, if there is one
-- Not here: what a tag's field holds, in Layout.
-- Assumes nothing.
use Rattle.std.specs.Prelude.{◌≡◌, ℕ, false, Result, MatchResult}
use Rattle.recording.specs.declared.fault.Fault.{Fault}
use Rattle.recording.specs.declared.fault.Fault.TheVariants as Faults
use Rattle.recording.specs.declared.tag.Tag.{Tag}
use Rattle.recording.specs.declared.tag.Tag.TheVariants.{Setup, Arrival, TransmitterEmpty, DeviceStatus, Sweep, HostWrite, Inspection, Reset, Iopls, Start, Doc, Dob, Dia, Dias, Tick}
use Rattle.recording.specs.Layout.{known}

abbrev pub tag_number : Tag → ℕ
tag_number Setup = 1
tag_number Arrival = 2
tag_number TransmitterEmpty = 3
tag_number DeviceStatus = 4
tag_number Sweep = 5
tag_number HostWrite = 6
tag_number Inspection = 7
tag_number Reset = 8
tag_number Iopls = 9
tag_number Start = 10
tag_number Doc = 11
tag_number Dob = 12
tag_number Dia = 13
tag_number Dias = 14
tag_number Tick = 15

-- the tag of that number, or none has it
abbrev pub Tags : ℕ → Result Tag Fault → Type 0
Tags n r = MatchResult r (λ t. tag_number t ≡ n) (λ f. (f ≡ Faults.UnknownTag) × (known n ≡ false))
