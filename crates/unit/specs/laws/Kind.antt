-- The kind of unit in a setting and in a record (document 02, K6): setup keeps it.
--   of_kind             a setting with another kind, all else the same
--   overfull           every call on a record with more than 40 entries is refused with 6, of either kind
-- In proofs/laws/Kind, since they rest on these: setup_kind, refused_kind.
-- Not here: the one row that asks it, in Location; that no other call changes it, in calls, laws/Set; what a kind does, in interrupt.
-- Assumes nothing.
use Rattle.std.specs.Prelude.{◌≡◌, refl, Bool, true, false, not, ◌||◌, ◌<◌, eqb, leb}
use Rattle.std.proofs.Common.{lt-ltb}
use Rattle.std.proofs.Math.Option.{some, none}
use Rattle.ground.specs.Choose.{first_of}
use Rattle.interrupt.specs.declared.Kind.{Kind}
use Rattle.interrupt.specs.Stack.{DEPTH}
use Rattle.interrupt.specs.Interrupt as Interrupt
use Rattle.unit.specs.declared.mux.Setting.{Setting}
use Rattle.unit.specs.declared.mux.Mux.{Mux}
use Rattle.unit.specs.Refusals.{UNSOUND, setting_rows, unsound, Given, refusal}
use Rattle.unit.specs.laws.Refusals.{unsound_first}

-- the setting with another kind
abbrev pub of_kind : Kind → Setting → Setting
of_kind k s = record { kind = k; block = s.block; ports = s.ports; base = s.base; special = s.special }

-- a call on a record with more than 40 entries
pub overfull : (g : Given) (u : Mux) → g.setting ≡ none → g.unit ≡ some u → DEPTH < u.irq.fill → refusal g ≡ UNSOUND
unfolding unsound Interrupt.unsound
overfull g u e f h =
    unsound_first g u e f (rw (lt-ltb _ _ h, any (leb u.setting.ports u.pos), any (not (eqb (first_of (setting_rows u.setting)) 0))))
  where
    any : (t : Bool) → (t || true) ≡ true
    any true = refl
    any false = refl
