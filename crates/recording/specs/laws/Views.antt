-- What the contracts say of the code's values by their numbers says all of them.
--   number_some, number_one   no refusal has the number 0, and no two have one number
--   code_one, done_one        so each answer has numbers of its own
--   tag_one                   each tag has a number of its own
--   wide_one, width_one, part_one   and each width and each part its own in the table, and so has none of either
--   layout_one                and so has each tag's layout
--   one_one                   what is said of the event at an offset, by it and by whether there is one, is so of one answer alone
-- Not here: the numbers, in Fault; the answers, in Scan.
-- Assumes nothing.
use Rattle.std.specs.Prelude.{◌≡◌, ℕ, zero, suc, false, true, Option, None, Some, IsSome, Result, Ok, Err, ◌↔◌, List, length, drop, get_or, ◌==◌, ◌≢◌, ◌<◌, refl}
use Rattle.std.proofs.Common.{sym, ◌∙◌, ap, arith}
use Rattle.std.proofs.lemmas.List.{ext_get_or}
use Rattle.ground.specs.Choose.{pick}
use Rattle.recording.specs.declared.fault.Fault.{Fault}
use Rattle.recording.specs.declared.fault.Fault.TheVariants.{UnknownTag, WrongLength, CutShort, NoRoom, BadValue}
use Rattle.recording.specs.declared.fault.Refused.{Refused}
use Rattle.recording.specs.declared.layout.Width as Widths
use Rattle.recording.specs.declared.layout.Part as Parts
use Rattle.recording.specs.declared.layout.Layout as Layouts
use Rattle.recording.specs.declared.reading.One as Found
use Rattle.recording.specs.declared.tag.Tag.{Tag}
use Rattle.recording.specs.declared.tag.Tag.TheVariants.{Setup, Arrival, TransmitterEmpty, DeviceStatus, Sweep, HostWrite, Inspection, Reset, Iopls, Start, Doc, Dob, Dia, Dias, Tick}
use Rattle.recording.specs.Fault.{number_of, code_of}
use Rattle.recording.specs.Tag.{tag_number}
use Rattle.recording.specs.Layout.{Layout, wide, width_in, part_of, layout_in}
use Rattle.recording.specs.Field.{field_code}
use Rattle.recording.specs.declared.reading.Done.{Done}
use Rattle.recording.specs.Scan.{done_of, one_of, one_at}

pub number_some : (f : Fault) → number_of f ≢ 0
number_some UnknownTag e = omega (arith, e)
number_some WrongLength e = omega (arith, e)
number_some CutShort e = omega (arith, e)
number_some NoRoom e = omega (arith, e)
number_some BadValue e = omega (arith, e)

-- the refusal of a number
abbrev fault_of : ℕ → Fault
fault_of n = pick (n == 13) UnknownTag (pick (n == 14) WrongLength (pick (n == 15) CutShort (pick (n == 18) NoRoom BadValue)))

number_back : (f : Fault) → fault_of (number_of f) ≡ f
unfolding pick
number_back UnknownTag = refl
number_back WrongLength = refl
number_back CutShort = refl
number_back NoRoom = refl
number_back BadValue = refl

pub number_one : (f g : Fault) → number_of f ≡ number_of g → f ≡ g
number_one f g e = sym (number_back f) ∙ ap fault_of e ∙ number_back g

pub code_one : (r s : Result (Unit {0}) Fault) → code_of r ≡ code_of s → r ≡ s
code_one (Ok x) (Ok y) e = refl
code_one (Ok x) (Err g) e = absurd (number_some g (sym e))
code_one (Err f) (Ok y) e = absurd (number_some f e)
code_one (Err f) (Err g) e = let same : f ≡ g = number_one f g e in λ i. Err (same i)

pub done_one : (r s : Result ℕ Refused) → done_of r ≡ done_of s → r ≡ s
done_one (Ok m) (Ok n) e = let same : m ≡ n = ap (λ (d : Done). d.count) e in λ i. Ok (same i)
done_one (Ok m) (Err s) e = absurd (number_some s.fault (sym (ap (λ (d : Done). d.code) e)))
done_one (Err r) (Ok n) e = absurd (number_some r.fault (ap (λ (d : Done). d.code) e))
done_one (Err r) (Err s) e =
    let fault : r.fault ≡ s.fault = number_one r.fault s.fault (ap (λ (d : Done). d.code) e) in
    let at : r.at ≡ s.at = ap (λ (d : Done). d.at) e in
    λ i. Err (record { fault = fault i; at = at i })

-- ---- the tags

-- the tag of a number
abbrev tag_at : ℕ → Tag
tag_at n =
    pick (n == 1) Setup (pick (n == 2) Arrival (pick (n == 3) TransmitterEmpty (pick (n == 4) DeviceStatus (pick (n == 5) Sweep (pick (n == 6) HostWrite (pick (n == 7) Inspection
    (pick (n == 8) Reset (pick (n == 9) Iopls (pick (n == 10) Start (pick (n == 11) Doc (pick (n == 12) Dob (pick (n == 13) Dia (pick (n == 14) Dias Tick)))))))))))))

tag_back : (t : Tag) → tag_at (tag_number t) ≡ t
unfolding pick
tag_back Setup = refl
tag_back Arrival = refl
tag_back TransmitterEmpty = refl
tag_back DeviceStatus = refl
tag_back Sweep = refl
tag_back HostWrite = refl
tag_back Inspection = refl
tag_back Reset = refl
tag_back Iopls = refl
tag_back Start = refl
tag_back Doc = refl
tag_back Dob = refl
tag_back Dia = refl
tag_back Dias = refl
tag_back Tick = refl

pub tag_one : (t u : Tag) → tag_number t ≡ tag_number u → t ≡ u
tag_one t u e = sym (tag_back t) ∙ ap tag_at e ∙ tag_back u

-- ---- the table

pub wide_one : (v w : Widths.Width) → wide v ≡ wide w → v ≡ w
wide_one v w e = grind arith

pub width_one : (v w : Option Widths.Width) → width_in v ≡ width_in w → v ≡ w
width_one v w e = grind arith

pub part_one : (p q : Option Parts.Part) → part_of p ≡ part_of q → p ≡ q
part_one p q e = grind arith

-- as the code has it, four parts
pub layout_one : (l m : Layouts.Layout) → length l.parts ≡ 4 → length m.parts ≡ 4 → layout_in l ≡ layout_in m → l ≡ m
layout_one l m ll lm e =
    let same : l.parts ≡ m.parts = ext_get_or None l.parts m.parts (ll ∙ sym lm) (λ i h. each i (omega (arith, h, ll))) in
    λ i. record { parts = same i; set = (e i).set }
  where
    each : (i : ℕ) → i < 4 → get_or l.parts i None ≡ get_or m.parts i None
    each zero h = part_one (get_or l.parts 0 None) (get_or m.parts 0 None) (ap (λ (x : Layout). x.first) e)
    each (suc zero) h = part_one (get_or l.parts 1 None) (get_or m.parts 1 None) (ap (λ (x : Layout). x.second) e)
    each (suc (suc zero)) h = part_one (get_or l.parts 2 None) (get_or m.parts 2 None) (ap (λ (x : Layout). x.third) e)
    each (suc (suc (suc zero))) h = part_one (get_or l.parts 3 None) (get_or m.parts 3 None) (ap (λ (x : Layout). x.fourth) e)
    each (suc (suc (suc (suc i)))) h = absurd (omega (arith, h))

-- ---- the event at an offset

other : false ≡ true → ⊥
other e = cc

-- the two clauses of `read_one` let one answer
pub one_one : (bytes : List ℕ) (at : ℕ) (r s : Option Found.One)
    → one_of at r ≡ one_at bytes at → (IsSome r ↔ (field_code (drop at bytes) ≡ 0)) → one_of at s ≡ one_at bytes at → (IsSome s ↔ (field_code (drop at bytes) ≡ 0)) → r ≡ s
one_one bytes at None None p f q g = refl
one_one bytes at None (Some y) p f q g = absurd (other (f.1 (g.0 refl)))
one_one bytes at (Some x) None p f q g = absurd (other (g.1 (f.0 refl)))
one_one bytes at (Some x) (Some y) p f q g =
    let same : one_of at (Some x) ≡ one_of at (Some y) = p ∙ sym q in
    λ i. Some (record { event = (same i).event; next = (same i).next })
