-- The line that a caretaker types (D48, D62): three decimal numbers with spaces between them, and an m after them for a Mighty Mux, read byte by byte.
--   blank                 a line of which nothing is read yet
--   begun, extended       a number begins, or has one more digit
--   digit_typed            a digit
--   is_space, spaced       what may stand between two numbers, and any byte that is no digit
--   lettered              the letter m
--   typed                 the line with one more byte
--   started, whole        anything but spaces is on the line; it is three numbers, with or without the m, and nothing else
--   kind_of, setting_of     the kind of unit and the setting that it asks for
-- Not here: a digit and a number with one more, in Text of the crate driver; what setup says of the setting, in Answer.
-- Assumes nothing.
use Rattle.std.specs.Prelude.{Bool, true, false, not, ◌&&◌, ◌||◌, ℕ, ◌+◌, ◌%◌, eqb, ltb}
use Rattle.ground.specs.Choose.{pick}
use Rattle.words.specs.Special.{set1974}
use Rattle.interrupt.specs.declared.Kind.{Kind}
use Rattle.interrupt.specs.declared.Kind.TheVariants.{Eds8, MightyMux}
use Rattle.unit.specs.declared.mux.Setting.{Setting}
use Rattle.driver.specs.Text.{is_digit, appended}
use Rattle.settings.specs.declared.typed.Line.{Line}

-- a line of which nothing is read yet
abbrev pub blank : Line
blank = record { block = 0; ports = 0; base = 0; count = 0; inside = false; mighty = false; wrong = false }

-- a number begins with a digit, and those before it move up; a fourth is wrong
unfoldable pub begun : Line → ℕ → Line
begun t b =
    record {
      block = t.ports;
      ports = t.base;
      base = b % 16;
      count = pick (ltb t.count 3) (t.count + 1) t.count;
      inside = true;
      mighty = t.mighty;
      wrong = not (ltb t.count 3) || t.wrong;
    }

-- the number has one more digit; from 2^32 on it is wrong
unfoldable pub extended : Line → ℕ → Line
extended t b =
    record {
      block = t.block;
      ports = t.ports;
      base = appended t.base b % 4294967296;
      count = t.count;
      inside = t.inside;
      mighty = t.mighty;
      wrong = t.wrong || ltb 4294967295 (appended t.base b);
    }

-- a digit, of a number that goes on or of a new one
unfoldable pub digit_typed : Line → ℕ → Line
digit_typed t b = pick t.inside (extended t b) (begun t b)

-- a space, a tab, or the carriage return that some systems put at the end of a line
abbrev pub is_space : ℕ → Bool
is_space b = (eqb b 32 || eqb b 9) || eqb b 13

-- a byte that is no digit ends the number; but for a space it is wrong
abbrev pub spaced : Line → ℕ → Line
spaced t b =
    record {
      block = t.block;
      ports = t.ports;
      base = t.base;
      count = t.count;
      inside = false;
      mighty = t.mighty;
      wrong = t.wrong || not (is_space b);
    }

-- the letter m, which ends the third number; anywhere else, or once more, it is wrong
abbrev pub lettered : Line → Line
lettered t =
    record {
      block = t.block;
      ports = t.ports;
      base = t.base;
      count = t.count;
      inside = false;
      mighty = true;
      wrong = (t.wrong || t.mighty) || not (eqb t.count 3);
    }

-- the line with one more byte
unfoldable pub typed : Line → ℕ → Line
typed t b = pick (is_digit b) (digit_typed t b) (pick (eqb b 109) (lettered t) (spaced t b))

-- anything but spaces is on the line
abbrev pub started : Line → Bool
started t = t.wrong || not (eqb t.count 0)

-- the line is three numbers, with or without the m, and nothing else
abbrev pub whole : Line → Bool
whole t = not t.wrong && eqb t.count 3

-- the kind of unit that it asks for
unfoldable pub kind_of : Bool → Kind
kind_of mighty = pick mighty MightyMux Eds8

-- the setting that it asks for, with the 1974 set
abbrev pub setting_of : Line → Setting
setting_of t = record { kind = kind_of t.mighty; block = t.block; ports = t.ports; base = t.base; special = set1974 }
