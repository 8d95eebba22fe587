-- The merged status word of an EDS-8 (document 01, Interrupt; 001, 4.7).
--   busy, more_marked, service_marked   bits 1, 2 and 3
--   status_after                       the word after a port was done
-- Not here: when it is cleared and read, in Interrupt; where each bit stands, in words, Codes.
-- Assumes nothing.
use Rattle.std.specs.Prelude.{Bool, ◌||◌, ℕ, eqb}
use Rattle.ground.specs.Choose.{pick}
use Rattle.words.specs.Field.{get, put}
use Rattle.words.specs.Codes.{MORE-THAN-ONE, INPUT-DONE, OUTPUT-DONE, PORT-ADDRESS, STATUS-UNUSED}
use Rattle.interrupt.specs.declared.Service.{Service}
use Rattle.interrupt.specs.declared.Service.TheVariants.{Input, Output}

-- bit 2 or bit 3 is 1: some port was done since START
unfoldable pub busy : ℕ → Bool
busy w = eqb (get INPUT-DONE w) 1 || eqb (get OUTPUT-DONE w) 1

-- bit 1 becomes 1 if bit 2 or 3 is already 1
unfoldable pub more_marked : ℕ → ℕ
more_marked w = pick (busy w) (put MORE-THAN-ONE 1 w) w

-- bit 2 for input, bit 3 for output
unfoldable pub service_marked : Service → ℕ → ℕ
service_marked Input w = put INPUT-DONE 1 w
service_marked Output w = put OUTPUT-DONE 1 w

-- the status word after a port was done: bits 1, 2 and 3, then bits 4 to 10 the port's address, and bits 11 to 15 0
unfoldable pub status_after : Service → ℕ → ℕ → ℕ
status_after s address w = put STATUS-UNUSED 0 (put PORT-ADDRESS address (service_marked s (more_marked w)))
