-- The unit's set of special codes at an inspection (document 02, K5): it reaches the two services, and nothing else reads it.
--   as_before              so by the 1974 set every inspection answers, and leaves record and memory, as it did without a set
-- Here, and not in specs/laws/Set, is what rests on other laws of specs/: an edit of a definition counts as refused where nothing in specs/ rests on the
-- law that it breaks.
-- Assumes nothing.
use Rattle.std.specs.Prelude.{◌≡◌, Bool, List, ℕ}
use Rattle.std.proofs.Common.{◌∙◌, ap}
use Rattle.interrupt.specs.declared.Service.{Service}
use Rattle.interrupt.specs.declared.Service.TheVariants.{Input, Output}
use Rattle.words.specs.Special.{set1974}
use Rattle.unit.specs.declared.mux.Port.{Port}
use Rattle.unit.specs.declared.mux.Mux.{Mux}
use Rattle.unit.specs.Record.{port_at, block_at}
use Rattle.input.specs.Input.{input_service}
use Rattle.input.specs.laws.Set.{default_same as input-same}
use Rattle.output.specs.Output.{output_service}
use Rattle.output.proofs.laws.Set.{default_same as output-same}
use Rattle.scan.specs.Turn.{service}
use Rattle.scan.specs.Scan.{inspection}
use Rattle.scan.specs.laws.Set.{inspection_by, by_the_services, service_was, same_services}

-- by the 1974 set an inspection is what it was without a set
pub as_before : (u : Mux) (m : List ℕ) → u.setting.special ≡ set1974 → inspection u m ≡ inspection_by service_was u m
unfolding service service_was
as_before u m e = by_the_services u m ∙ same_services (λ k. service k u.setting.special) service_was u m same
  where
    a : ℕ
    a = block_at u.setting u.pos

    q : Port
    q = port_at u u.pos

    same : (k : Service) → service k u.setting.special m a q ≡ service_was k m a q
    same Input = ap (λ (codes : List Bool). input_service codes m a q) e ∙ input-same m a q
    same Output = ap (λ (codes : List Bool). output_service codes m a q) e ∙ output-same m a q
