-- Two fields: port 5's transmitter is empty, and DIA.
--   two             the ten bytes
--   two_whole       both are read
--   two_cut         without the last byte the second is cut short, at the offset of its tag; the first is given all the same
--   two_unknown     an unknown tag is refused at once
-- Not here: the layout of a field, in recording.
-- Assumes nothing.
use Rattle.std.specs.Prelude.{◌≡◌, ℕ, false, List, [], ◌∷◌, take, replicate, refl}
use Rattle.ground.specs.Choose.{pick, first_of}
use Rattle.ground.specs.Tab.{tab}
use Rattle.ground.specs.Machine.{run, gather}
use Rattle.recording.specs.declared.event.Event.{Event}
use Rattle.recording.specs.Layout.{width_of, size, most, layout_of, data_length}
use Rattle.recording.specs.Event.{numbers_fit}
use Rattle.recording.specs.Field.{number_in, marks_in, marks, event_in, read_fits, field_code}
use Rattle.recording.specs.Scan.{done}
use Rattle.stream.specs.Stream.{begun, counted, grown, took, news, gives, ended}

abbrev two : List ℕ
two = 3 ∷ 0 ∷ 4 ∷ 0 ∷ 0 ∷ 0 ∷ 5 ∷ 13 ∷ 0 ∷ 0 ∷ []

-- an event with one number
abbrev one : ℕ → ℕ → Event
one t n = record { tag = t; first = n; second = 0; third = 0; fourth = 0; set = replicate 128 false }

two_whole : ended (run took begun two) ≡ done 0 0 2
unfolding run took grown counted ended field_code first_of pick layout_of data_length width_of size most number_in marks_in marks event_in read_fits numbers_fit
two_whole = refl

two_cut : (ended (run took begun (take 9 two)) ≡ done 15 7 0) × (gather took gives begun (take 9 two) ≡ one 3 5 ∷ [])
unfolding run gather took grown counted ended news field_code first_of pick layout_of data_length width_of size most number_in marks_in marks event_in read_fits numbers_fit tab
two_cut = (refl, refl)

two_unknown : ended (run took begun (3 ∷ 0 ∷ 4 ∷ 0 ∷ 0 ∷ 0 ∷ 5 ∷ 16 ∷ [])) ≡ done 13 7 0
unfolding run took grown counted ended field_code first_of pick layout_of data_length width_of size most number_in marks_in marks event_in read_fits numbers_fit
two_unknown = refl
