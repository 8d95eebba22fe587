-- The kind of unit in a setting and in a record (document 02, K6): setup keeps it.
--   setup_kind         a setup that is not refused makes a record of the kind that it was given
--   refused_kind       a refused one gives the record of zeros, which is an EDS-8's
-- Here, and not in specs/laws/Kind, is what rests on other laws of specs/: an edit of a definition counts as refused where nothing in specs/ rests on the
-- law that it breaks.
-- Assumes nothing.
use Rattle.std.specs.Prelude.{◌≡◌}
use Rattle.std.proofs.Common.{ap}
use Rattle.interrupt.specs.declared.Kind.TheVariants.{Eds8}
use Rattle.unit.specs.declared.mux.Setting.{Setting}
use Rattle.unit.specs.Reply.{Replied}
use Rattle.unit.specs.Refusals.{refusal, of_setup}
use Rattle.unit.specs.Setup.{setup}
use Rattle.unit.proofs.laws.Replies.{setup_accepted, setup_refused}

-- the record has the kind that setup was given
pub setup_kind : (s : Setting) → refusal (of_setup s) ≡ 0 → (setup s).mux.setting.kind ≡ s.kind
setup_kind s e = ap (λ (r : Replied). r.mux.setting.kind) (setup_accepted s e)

-- a refused setup gives zeros, the kind among them
pub refused_kind : (s : Setting) → (refusal (of_setup s) ≡ 0 → ⊥) → (setup s).mux.setting.kind ≡ Eds8
refused_kind s n = rw (setup_refused s n)
