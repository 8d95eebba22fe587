-- The glottal stop in a sweep (document 01, Sweep): the interrupt that reports it ends the sweep.
--   Swept, glottal_swept   a sweep that starts where the glottal stop waits is the one inspection that reports it
-- In proofs/laws/Glottal, since they rest on these: glottal_swept.
-- Not here: that inspection, in laws/Glottal of scan.
-- Assumes nothing.
use Rattle.std.specs.Prelude.{◌≡◌, List, ℕ}
use Rattle.unit.specs.declared.mux.Mux.{Mux}
use Rattle.unit.specs.Reply.{Outcome}
use Rattle.scan.specs.Scan.{inspection}
use Rattle.scan.specs.laws.Glottal.{Delivered}

-- one inspection was made and no list place used; it delivered the glottal stop, and the record and the memory are as it left them
pub record Swept (u : Mux) (m : List ℕ) (p code : ℕ) (xs : List ℕ) (o : Outcome) : Type 0 where
  pub made : o.reply.made ≡ 1
  pub used : o.reply.used ≡ 0
  pub list : o.list ≡ xs
  pub world : o.world ≡ (inspection u m).world
  pub delivered : Delivered u m p code (inspection u m)
