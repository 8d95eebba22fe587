-- What is typed, byte by byte.
--   Typing, nothing   whether anything is typed of a line, and its numbers; a line of which nothing is typed
--   taken             the line after one byte of what is typed: the end of a line begins the next
--   typing_of, takes  the same of what the code keeps: there a line of which nothing is typed is absent
-- Not here: what the text that was read leaves, in Text of the crate driver; that the two agree, in laws/Typing.
-- Assumes nothing.
use Rattle.std.specs.Prelude.{Bool, true, false, ℕ, Option, None, Some, eqb, unwrap_or}
use Rattle.ground.specs.Choose.{pick}
use Rattle.driver.specs.declared.read.Line.{Line}
use Rattle.driver.specs.Text.{blank, typed}
use Rattle.picture.specs.declared.Typing.{Typing as TypingMade}

pub record Typing : Type 0 where
  pub begun : Bool
  pub line : Line

abbrev pub nothing : Typing
nothing = record { begun = false; line = blank }

unfoldable pub taken : Typing → ℕ → Typing
taken t b = pick (eqb b 10) nothing (record { begun = true; line = typed t.line b })

-- ---- what the code keeps

abbrev pub typing_in : Option Line → Typing
typing_in None = nothing
typing_in (Some l) = record { begun = true; line = l }

abbrev pub typing_of : TypingMade → Typing
typing_of t = typing_in t.line

unfoldable pub takes : TypingMade → ℕ → TypingMade
takes t b = record { line = pick (eqb b 10) None (Some (typed (unwrap_or t.line blank) b)) }
