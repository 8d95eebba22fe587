-- The set of special codes in a setting and in a record (document 02, K5): setup keeps it, and no refusal asks it.
--   choosing, chosen   a setting and a record with another set, all else the same
--   with_sets, refusal_unread   no call's number depends on the set, setup's among them: nothing can be wrong with one
--   again, guarded_unread   what a call on the record leaves, with another set in the record: what it does where it does not read the set
-- In proofs/laws/Set, since they rest on these: setup_keeps, setup_unread, refused_ordinary.
-- Not here: what a set says of a code, in words, laws/Special; that no other call changes it, in calls, laws/Set; what a service makes of it, in
-- laws/Set of input, output and scan.
-- Assumes nothing.
use Rattle.std.specs.Prelude.{◌≡◌, refl, Bool, true, false, List, ℕ, eqb}
use Rattle.std.proofs.Math.Option.{Option, some, none, map}
use Rattle.ground.specs.Choose.{pick, asked}
use Rattle.unit.specs.declared.mux.Setting.{Setting}
use Rattle.unit.specs.declared.mux.Mux.{Mux}
use Rattle.unit.specs.Reply.{Replied}
use Rattle.unit.specs.Reply.{refused, guarded}
use Rattle.unit.specs.Refusals.{size_rows, base_rows, area_rows, setting_rows, unsound, Given, rows_of, call_rows, table_of, refusal}

-- the setting with another set
abbrev pub choosing : List Bool → Setting → Setting
choosing codes s = record { kind = s.kind; block = s.block; ports = s.ports; base = s.base; special = codes }

-- the record with another set
abbrev pub chosen : List Bool → Mux → Mux
chosen codes u =
    record { setting = choosing codes u.setting; pos = u.pos; runs = u.runs; clock = u.clock; irq = u.irq; port = u.port }

-- ---- no refusal asks it

-- what a call is given, with another set in its setting and in its record
abbrev pub with_sets : List Bool → List Bool → Given → Given
with_sets x y g =
    record {
      setting = map (choosing x) g.setting;
      unit = map (chosen y) g.unit;
      memory = g.memory;
      port = g.port;
      inspections = g.inspections;
      list = g.list;
    }

-- the number of every call, whatever it is given
pub refusal_unread : (x y : List Bool) (g : Given) → refusal (with_sets x y g) ≡ refusal g
unfolding refusal table_of rows_of call_rows setting_rows size_rows base_rows area_rows unsound asked
refusal_unread x y g = by g.setting g.unit
  where
    asks : Option Setting → Option Mux → Given
    asks s u = record { setting = s; unit = u; memory = g.memory; port = g.port; inspections = g.inspections; list = g.list }

    by : (s : Option Setting) (u : Option Mux) → refusal (with_sets x y (asks s u)) ≡ refusal (asks s u)
    by none none = refl
    by none (some u) = refl
    by (some s) none = refl
    by (some s) (some u) = refl

-- ---- calls on the record alone

-- a reply, and the record beside it with another set
abbrev pub again : List Bool → Replied → Replied
again codes r = record { reply = r.reply; mux = chosen codes r.mux }

pub guarded_unread : (codes : List Bool) (k : ℕ) (u : Mux) (r : Replied) → guarded k (chosen codes u) (again codes r) ≡ again codes (guarded k u r)
unfolding guarded pick
guarded_unread codes k u r = by (eqb k 0)
  where
    by : (t : Bool) → pick t (again codes r) (refused k (chosen codes u)) ≡ again codes (pick t r (refused k u))
    by true = refl
    by false = refl
