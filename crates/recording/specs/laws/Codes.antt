-- What is at fault, exactly when.
--   field_rows, field_gives   each number of a field: 13, 15, 14, 15, 21, the first whose row applies
--   Good, code_good, good_code   a field at whose front nothing is at fault: its length, and that its values may stand there
--   event_rows, event_gives   each number of an event: 13, 21
--   Sound, code_sound, sound_code   an event at which nothing is
-- Not here: a list of fields or events, in laws/Reads and laws/Passes.
-- Assumes nothing.
use Rattle.std.specs.Prelude.{◌≡◌, ℕ, ◌≤◌, true, not, ◌↔◌, List, [], ◌∷◌, length, ◌==◌, nat_lt, refl}
use Rattle.std.proofs.Common.{ltb-false, le-ltb, eqb-true, eq-eqb}
use Rattle.std.proofs.lemmas.Bool.{not-false}
use Rattle.ground.specs.Choose.{Row, row}
use Rattle.ground.specs.laws.Rows.{Gives, first_gives, first_zero}
use Rattle.recording.specs.declared.event.Event.{Event}
use Rattle.recording.specs.Layout.{known, layout_of, data_length, field_length}
use Rattle.recording.specs.Event.{UNKNOWN-TAG, WRONG-LENGTH, CUT-SHORT, BAD-VALUE, event_fits, event_code}
use Rattle.recording.specs.Field.{tag_in, length_in, read_fits, data_rows, field_code}

-- a good field stands at the front of some bytes
pub record Good (bs : List ℕ) : Type 0 where
  pub tagged : known (tag_in bs) ≡ true
  pub headed : 3 ≤ length bs
  pub said : length_in bs ≡ data_length (layout_of (tag_in bs))
  pub whole : field_length (tag_in bs) ≤ length bs
  pub fitting : read_fits bs ≡ true

abbrev pub field_rows : List ℕ → List Row
field_rows bs =
    row UNKNOWN-TAG (not (known (tag_in bs)))
    ∷ row CUT-SHORT (nat_lt (length bs) 3)
    ∷ row WRONG-LENGTH (not (length_in bs == data_length (layout_of (tag_in bs))))
    ∷ data_rows bs (field_length (tag_in bs))

-- each number exactly where its row applies and none before it
pub field_gives : (bs : List ℕ) (k : ℕ) → (field_code bs ≡ k) ↔ Gives (field_rows bs) k
unfolding field_code
field_gives bs k = first_gives (field_rows bs) k

pub code_good : (bs : List ℕ) → field_code bs ≡ 0 → Good bs
unfolding field_code
code_good bs e =
    let p = (first_zero (field_rows bs) refl).0 e in
    record {
      tagged = not-false (known (tag_in bs)) p.0;
      headed = ltb-false (length bs) 3 p.1.0;
      said = eqb-true (length_in bs) (data_length (layout_of (tag_in bs))) (not-false (length_in bs == data_length (layout_of (tag_in bs))) p.1.1.0);
      whole = ltb-false (length bs) (field_length (tag_in bs)) p.1.1.1.0;
      fitting = not-false (read_fits bs) p.1.1.1.1.0;
    }

pub good_code : (bs : List ℕ) → Good bs → field_code bs ≡ 0
unfolding field_code
good_code bs g =
    (first_zero (field_rows bs) refl).1 (
      rw g.tagged refl,
      (
        le-ltb (length bs) 3 g.headed,
        (
          rw (eq-eqb (length_in bs) (data_length (layout_of (tag_in bs))) g.said) refl,
          (
            le-ltb (length bs) (field_length (tag_in bs)) g.whole,
            (rw g.fitting refl, tt),
          ),
        ),
      ),
    )

-- an event at which nothing is at fault
pub record Sound (e : Event) : Type 0 where
  pub tagged : known e.tag ≡ true
  pub fitting : event_fits e ≡ true

abbrev pub event_rows : Event → List Row
event_rows e = row UNKNOWN-TAG (not (known e.tag)) ∷ row BAD-VALUE (not (event_fits e)) ∷ []

pub event_gives : (e : Event) (k : ℕ) → (event_code e ≡ k) ↔ Gives (event_rows e) k
unfolding event_code
event_gives e k = first_gives (event_rows e) k

pub code_sound : (e : Event) → event_code e ≡ 0 → Sound e
unfolding event_code
code_sound e c =
    let p = (first_zero (event_rows e) refl).0 c in
    record { tagged = not-false (known e.tag) p.0; fitting = not-false (event_fits e) p.1.0 }

pub sound_code : (e : Event) → Sound e → event_code e ≡ 0
unfolding event_code
sound_code e s = (first_zero (event_rows e) refl).1 (rw s.tagged refl, (rw s.fitting refl, tt))
