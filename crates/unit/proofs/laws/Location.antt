-- The bases of a Mighty Mux, and what asking them changed (document 02, K7).
--   location_iff             12 in numbers: exactly where its row applies and none before it
--   taken_located, sound_located   a Mighty Mux that setup takes, and one whose record is not refused, starts at a multiple of octal 400
--   elsewhere_refused        every call on the record of one that starts elsewhere is refused with 6
--   never_32                 with blocks of 32 words 12 is never given: 3 comes first
--   location_same, location_changed   a setup answers as it did, but for OnlyElsewhere: 12 in the place of 0 or 4
--   eds8_number, eds8_setup, eds8_sound, eds8_calls   an EDS-8's setup, row 6 of its record and every call on it as they were
--   kind_asked, kind_32      no number but 12 depends on the kind; with blocks of 32 words none does
-- Here, and not in specs/laws/Location, is what rests on other laws of specs/: an edit of a definition counts as refused where nothing in specs/ rests on the
-- law that it breaks.
-- Assumes nothing.
use Rattle.std.specs.Prelude.{◌≡◌, refl, Bool, true, false, not, ◌↔◌, ◌⊎◌, ℕ, ◌%◌}
use Rattle.std.proofs.Common.{sym, ap, ◌∙◌, inl, inr, ne_eqb}
use Rattle.std.proofs.lemmas.Bool.{false≢true, eqb-false, not-true}
use Rattle.std.proofs.Math.Option.{some, none}
use Rattle.ground.specs.Choose.{pick, row, first_of}
use Rattle.ground.specs.laws.Rows.{first_zero, never, first_at, first_put}
use Rattle.interrupt.specs.declared.Kind.{Kind}
use Rattle.interrupt.specs.declared.Kind.TheVariants.{Eds8, MightyMux}
use Rattle.unit.specs.declared.mux.Setting.{Setting}
use Rattle.unit.specs.declared.mux.Mux.{Mux}
use Rattle.unit.specs.Record.{fresh, no_mux}
use Rattle.unit.specs.Reply.{refused, accepted, guarded}
use Rattle.unit.specs.Refusals.{BAD-LOCATION, bad_location, size_rows, base_rows, area_rows, setting_rows, unsound, Given, refusal, of_setup, of_unit}
use Rattle.unit.specs.Setup.{setup}
use Rattle.unit.specs.laws.Refusals.{setup_refusal, unsound_first}
use Rattle.unit.proofs.laws.Refusals.{setting_unsound}
use Rattle.unit.specs.laws.Sound.{good_base, low_base, size_fits}
use Rattle.unit.proofs.laws.Sound.{setup_iff, sound_iff}
use Rattle.unit.specs.laws.Tables.{setup_by, unsound_by, call_rows_by, same_setup, alike_by, OfEds8}
use Rattle.unit.proofs.laws.Tables.{same_sound, same_calls}
use Rattle.unit.specs.laws.Kind.{of_kind}
use Rattle.unit.specs.laws.Location.{OnlyElsewhere, earlier, rows_before}

-- ---- the number, in numbers

-- the two kinds are two
no_mighty : ◌≡◌ {A = Kind} Eds8 MightyMux → ⊥
no_mighty e = false≢true (ap told e)
  where
    told : Kind → Bool
    told Eds8 = false
    told MightyMux = true

-- row 12 applies to a Mighty Mux whose base is no such multiple, and to nothing else
bad_location_lem : (k : Kind) (a : ℕ) → (bad_location k a ≡ true) ↔ ((k ≡ MightyMux) × (a % 256 ≡ 0 → ⊥))
unfolding bad_location
bad_location_lem Eds8 a = (λ e. absurd (false≢true e), λ h. absurd (no_mighty h.0))
bad_location_lem MightyMux a = (λ e. (refl, eqb-false _ _ (not-true _ e)), λ h. ap not (ne_eqb _ _ h.1))

-- setup is refused with 12 exactly there
pub location_iff : (s : Setting) → (refusal (of_setup s) ≡ BAD-LOCATION) ↔ OnlyElsewhere s
unfolding setting_rows size_rows base_rows area_rows
location_iff s =
    let z = first_zero (size_rows s) refl in
    let l = first_at (earlier s) (row BAD-LOCATION (bad_location s.kind s.base)) (area_rows s) refl refl in (
      λ e. let p = l.0 (sym (setup_refusal s) ∙ e) in
          let b = (bad_location_lem _ _).0 p.1 in
          record {
            size = (size_fits s).0 (z.1 (p.0.0, (p.0.1.0, tt)));
            aligned = (good_base _ _).0 p.0.1.1.0;
            low = (low_base _).0 p.0.1.1.1.0;
            mighty = b.0;
            elsewhere = b.1;
          },
      λ h. let q = z.0 ((size_fits s).1 h.size) in
          setup_refusal s ∙ l.1 ((q.0, (q.1.0, ((good_base _ _).1 h.aligned, ((low_base _).1 h.low, tt)))), (bad_location_lem _ _).1 (h.mighty, h.elsewhere)),
    )

-- a Mighty Mux that setup takes starts at a multiple of octal 400
pub taken_located : (s : Setting) → refusal (of_setup s) ≡ 0 → s.kind ≡ MightyMux → s.base % 256 ≡ 0
taken_located s e k = ((setup_iff s).0 e).base.located k

-- and so does one whose record is not refused
pub sound_located : (u : Mux) → refusal (of_unit u) ≡ 0 → u.setting.kind ≡ MightyMux → u.setting.base % 256 ≡ 0
sound_located u e k = ((sound_iff u).0 e).setting.base.located k

-- every call on the record of one that starts elsewhere is refused with 6
pub elsewhere_refused : (g : Given) (u : Mux) → g.setting ≡ none → g.unit ≡ some u → u.setting.kind ≡ MightyMux → (u.setting.base % 256 ≡ 0 → ⊥) → refusal g ≡ 6
elsewhere_refused g u e f k n = unsound_first g u e f (setting_unsound u (λ z. n (taken_located u.setting z k)))

-- with blocks of 32 words the number never comes: 8 times 32 is 256, so 3 comes first
pub never_32 : (s : Setting) → s.block ≡ 32 → refusal (of_setup s) ≡ BAD-LOCATION → ⊥
never_32 s b e = let h = (location_iff s).0 e in h.elsewhere (rw b at h.aligned)

-- ---- what changed

-- the number is the one that it was, or 12 where row 4 decided
abbrev Since : Setting → Type 0
Since s = (refusal (of_setup s) ≡ first_of (rows_before s)) ⊎ ((refusal (of_setup s) ≡ BAD-LOCATION) × (first_of (rows_before s) ≡ first_of (area_rows s)))

numbers : (s : Setting) → Since s
unfolding setting_rows size_rows base_rows rows_before
numbers s = rw (setup_refusal s) (first_put (earlier s) (row BAD-LOCATION (bad_location s.kind s.base)) (area_rows s))

-- any number but 12 is the one that it was
number_same : (s : Setting) → (refusal (of_setup s) ≡ BAD-LOCATION → ⊥) → refusal (of_setup s) ≡ first_of (rows_before s)
number_same s n = go (numbers s)
  where
    go : Since s → refusal (of_setup s) ≡ first_of (rows_before s)
    go (inl e) = e
    go (inr h) = absurd (n h.0)

-- a setup answers as it did, number and record, but for one case
pub location_same : (s : Setting) → (OnlyElsewhere s → ⊥) → setup s ≡ setup_by rows_before s
location_same s n = same_setup rows_before s (number_same s (λ e. n ((location_iff s).0 e)))

-- in which it had what row 4 says, 0 or 4, and has 12
pub location_changed : (s : Setting) → OnlyElsewhere s → (setup_by rows_before s ≡ guarded (first_of (area_rows s)) no_mux (accepted 0 (fresh s))) × (setup s ≡ refused 12 no_mux)
unfolding setup setup_by guarded pick rows_before size_rows area_rows
location_changed s h = (go (numbers s), rw now refl)
  where
    now : refusal (of_setup s) ≡ BAD-LOCATION
    now = (location_iff s).1 h

    go : Since s → setup_by rows_before s ≡ guarded (first_of (area_rows s)) no_mux (accepted 0 (fresh s))
    go (inl e) = absurd (never (rows_before s) BAD-LOCATION refl (sym e ∙ now))
    go (inr was) = rw was.1 refl

-- ---- an EDS-8

-- it has the number that it had
pub eds8_number : (s : Setting) → s.kind ≡ Eds8 → refusal (of_setup s) ≡ first_of (rows_before s)
eds8_number s k = number_same s (λ e. no_mighty (sym k ∙ ((location_iff s).0 e).mighty))

-- its setup answers as it did, number and record
pub eds8_setup : (s : Setting) → s.kind ≡ Eds8 → setup s ≡ setup_by rows_before s
eds8_setup s k = same_setup rows_before s (eds8_number s k)

-- row 6 refuses its record where it did
pub eds8_sound : (u : Mux) → u.setting.kind ≡ Eds8 → unsound u ≡ unsound_by rows_before u
eds8_sound = same_sound rows_before (alike_by rows_before eds8_number)

-- so every call on such a record, which is no setup, is refused as it was
pub eds8_calls : (g : Given) → g.setting ≡ none → OfEds8 g → refusal g ≡ first_of (call_rows_by rows_before g)
eds8_calls = same_calls rows_before (alike_by rows_before eds8_number)

-- ---- what depends on the kind

-- no number but 12
pub kind_asked : (k : Kind) (s : Setting) → (refusal (of_setup (of_kind k s)) ≡ BAD-LOCATION → ⊥) → (refusal (of_setup s) ≡ BAD-LOCATION → ⊥) → refusal (of_setup (of_kind k s)) ≡ refusal (of_setup s)
unfolding rows_before size_rows area_rows
kind_asked k s n m = number_same (of_kind k s) n ∙ sym (number_same s m)

-- and with blocks of 32 words none
pub kind_32 : (k : Kind) (s : Setting) → s.block ≡ 32 → refusal (of_setup (of_kind k s)) ≡ refusal (of_setup s)
kind_32 k s b = kind_asked k s (never_32 (of_kind k s) b) (never_32 s b)
