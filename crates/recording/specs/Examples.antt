-- Worked examples of a recording (document 02, K8), byte by byte as docs/RECORDING.md draws them.
--   Worked   fields of each tag with data; what is at fault in a field; the first of several; what writing refuses
-- Not here: that they hold, in laws/Examples.
-- Assumes nothing.
use Rattle.std.specs.Prelude.{◌≡◌, ℕ, true, false, List, [], ◌∷◌, ◌++◌, replicate}
use Rattle.recording.specs.declared.event.Event.{Event}
use Rattle.recording.specs.Event.{no_event}
use Rattle.recording.specs.Field.{field}
use Rattle.recording.specs.Scan.{done, Reading, reading, read}
use Rattle.recording.specs.Pass.{wrote, write}

-- an event without a set
abbrev plain : ℕ → ℕ → ℕ → ℕ → ℕ → Event
plain t a b c d = record { tag = t; first = a; second = b; third = c; fourth = d; set = replicate 128 false }

-- setup of a Mighty Mux with 16 words to a block, 128 ports, base octal 400, and code 127 special alone
abbrev setup : Event
setup = record { tag = 1; first = 1; second = 16; third = 128; fourth = 0o400; set = replicate 127 false ++ (true ∷ []) }

-- a letter A with the parity mark arrives at port 258
abbrev arrival : Event
arrival = plain 2 258 65 1 0

-- and its field
abbrev arrived : List ℕ
arrived = 2 ∷ 0 ∷ 7 ∷ 0 ∷ 0 ∷ 1 ∷ 2 ∷ 65 ∷ 1 ∷ 0 ∷ []

-- reading into two places
abbrev read_two : List ℕ → Reading
read_two bytes = read bytes (no_event ∷ no_event ∷ [])

-- refused with a number, at an offset: the two places as they were
abbrev refused : ℕ → ℕ → Reading
refused c at = reading (done c at 0) (no_event ∷ no_event ∷ [])

pub record Worked : Type 0 where
  -- the fields of the tags with data, and of one without
  pub setup_field : field setup ≡ 1 ∷ 0 ∷ 141 ∷ 1 ∷ 0 ∷ 0 ∷ 0 ∷ 16 ∷ 0 ∷ 0 ∷ 0 ∷ 128 ∷ 0 ∷ 0 ∷ 1 ∷ 0 ∷ (replicate 127 0 ++ (1 ∷ []))
  pub arrival_field : field arrival ≡ arrived
  pub empty-field : field (plain 3 0x01020304 0 0 0) ≡ 3 ∷ 0 ∷ 4 ∷ 1 ∷ 2 ∷ 3 ∷ 4 ∷ []
  pub status_field : field (plain 4 5 1 0 0) ≡ 4 ∷ 0 ∷ 5 ∷ 0 ∷ 0 ∷ 0 ∷ 5 ∷ 1 ∷ []
  pub sweep_field : field (plain 5 4096 258 0 0) ≡ 5 ∷ 0 ∷ 8 ∷ 0 ∷ 0 ∷ 16 ∷ 0 ∷ 0 ∷ 0 ∷ 1 ∷ 2 ∷ []
  pub write_field : field (plain 6 32767 513 0 0) ≡ 6 ∷ 0 ∷ 4 ∷ 127 ∷ 255 ∷ 2 ∷ 1 ∷ []
  pub tick_field : field (plain 15 0 0 0 0) ≡ 15 ∷ 0 ∷ 0 ∷ []
  -- read: the events, and the place past them as it was
  pub both_read : read_two (arrived ++ (15 ∷ 0 ∷ 0 ∷ [])) ≡ reading (done 0 0 2) (arrival ∷ plain 15 0 0 0 0 ∷ [])
  pub one_read : read_two arrived ≡ reading (done 0 0 1) (arrival ∷ no_event ∷ [])
  pub setup_read : read_two (field setup) ≡ reading (done 0 0 1) (setup ∷ no_event ∷ [])
  -- 13: tags 0 and 16, though nothing follows them
  pub tag_low : read_two (0 ∷ []) ≡ refused 13 0
  pub tag_high : read_two (16 ∷ []) ≡ refused 13 0
  -- 15 before 14: a length byte is missing. 14 before 15 and 21: another length, with no data or bad data behind it. Then 15, before 21
  pub no_length : read_two (2 ∷ []) ≡ refused 15 0
  pub half_length : read_two (2 ∷ 1 ∷ []) ≡ refused 15 0
  pub long_length : read_two (2 ∷ 7 ∷ 0 ∷ []) ≡ refused 14 0
  pub bad_too : read_two (4 ∷ 0 ∷ 6 ∷ 0 ∷ 0 ∷ 0 ∷ 5 ∷ 2 ∷ []) ≡ refused 14 0
  pub no_data : read_two (6 ∷ 0 ∷ 4 ∷ 255 ∷ 255 ∷ 0 ∷ []) ≡ refused 15 0
  -- 21: a level of 2, either mark, a kind, a byte of the set, and a host write of word 32768; one of 65535 into word 32767 is taken
  pub level_two : read_two (4 ∷ 0 ∷ 5 ∷ 0 ∷ 0 ∷ 0 ∷ 5 ∷ 2 ∷ []) ≡ refused 21 0
  pub parity_two : read_two (2 ∷ 0 ∷ 7 ∷ 0 ∷ 0 ∷ 1 ∷ 2 ∷ 65 ∷ 2 ∷ 0 ∷ []) ≡ refused 21 0
  pub break_two : read_two (2 ∷ 0 ∷ 7 ∷ 0 ∷ 0 ∷ 1 ∷ 2 ∷ 65 ∷ 0 ∷ 2 ∷ []) ≡ refused 21 0
  pub kind_two : read_two (1 ∷ 0 ∷ 141 ∷ 2 ∷ replicate 140 0) ≡ refused 21 0
  pub set_two : read_two (1 ∷ 0 ∷ 141 ∷ (replicate 140 0 ++ (2 ∷ []))) ≡ refused 21 0
  pub word_32768 : read_two (6 ∷ 0 ∷ 4 ∷ 128 ∷ 0 ∷ 0 ∷ 0 ∷ []) ≡ refused 21 0
  pub word_32767 : read_two (6 ∷ 0 ∷ 4 ∷ 127 ∷ 255 ∷ 255 ∷ 255 ∷ []) ≡ reading (done 0 0 1) (plain 6 32767 65535 0 0 ∷ no_event ∷ [])
  -- the first field at fault, at its tag, though one that follows is at fault too; and only without one, 18 at the first that has no place
  pub second_first : read_two (arrived ++ (7 ∷ 0 ∷ 1 ∷ 99 ∷ [])) ≡ refused 14 10
  pub third_full : read_two (arrived ++ (7 ∷ 0 ∷ 0 ∷ 8 ∷ 0 ∷ 0 ∷ [])) ≡ refused 18 13
  pub fourth_bad : read_two (arrived ++ (7 ∷ 0 ∷ 0 ∷ 8 ∷ 0 ∷ 0 ∷ 4 ∷ 0 ∷ 5 ∷ 0 ∷ 0 ∷ 0 ∷ 5 ∷ 2 ∷ [])) ≡ refused 21 16
  -- written into twelve bytes: the last two stay
  pub written : write (arrival ∷ []) (replicate 12 9) ≡ wrote (done 0 0 10) (arrived ++ (9 ∷ 9 ∷ []))
  -- any port and any character
  pub greatest : write (plain 2 0xffffffff 255 1 1 ∷ []) (replicate 10 9) ≡ wrote (done 0 0 10) (2 ∷ 0 ∷ 7 ∷ 255 ∷ 255 ∷ 255 ∷ 255 ∷ 255 ∷ 1 ∷ 1 ∷ [])
  -- 13 and 21 where the tag would stand; an unused number that is not 0, a set that the tag has not, a host write of word 32768
  pub unknown : write (arrival ∷ plain 16 0 0 0 0 ∷ []) (replicate 12 9) ≡ wrote (done 13 10 0) (replicate 12 9)
  pub unused : write (arrival ∷ plain 3 5 1 0 0 ∷ []) (replicate 30 9) ≡ wrote (done 21 10 0) (replicate 30 9)
  pub last_unused : write (plain 5 1 1 0 1 ∷ []) (replicate 30 9) ≡ wrote (done 21 0 0) (replicate 30 9)
  pub no_set : write (record { tag = 7; first = 0; second = 0; third = 0; fourth = 0; set = replicate 127 false ++ (true ∷ []) } ∷ []) (replicate 30 9) ≡ wrote (done 21 0 0) (replicate 30 9)
  pub write_32768 : write (plain 6 32768 0 0 0 ∷ []) (replicate 30 9) ≡ wrote (done 21 0 0) (replicate 30 9)
  -- 18 at the first field that has no room, and not where a later event is at fault
  pub full : write (arrival ∷ plain 7 0 0 0 0 ∷ []) (replicate 12 9) ≡ wrote (done 18 10 0) (replicate 12 9)
  pub later_bad : write (arrival ∷ plain 7 0 0 0 0 ∷ plain 4 5 2 0 0 ∷ []) (replicate 12 9) ≡ wrote (done 21 13 0) (replicate 12 9)
