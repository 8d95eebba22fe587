-- The one table of bit codes: document 01, and what it takes from the EDS-8 manual (001), the section beside each; document 02, K6, with the Mighty
-- Mux's manual (000).
-- Bits are numbered from the top: bit 0 has weight 32768, bit 15 weight 1.
--
-- ICW, word 0 of a block (001, 4.1)
--       0       1   2     3      4   5        6               7           8 . . . . . 15
--   +--------+-------+-------+--------+------------+------------------+-----------------+
--   | INDONE | INMO  | ASCII | FLAGS  | NOT-ECHOED | SERVICE-OVERLOAD |    CHARACTER    |
--   +--------+-------+-------+--------+------------+------------------+-----------------+
-- OCW, word 1 of a block (001, 4.2); bit 3 is SPECIAL-REQUEST in automatic output and DEVICE-CONTROL in port control
--       0       1   2          3               4                5            6            7          8 . . . . . 15
--   +---------+-------+-----------------+---------------+-----------------+--------+----------------+-----------------+
--   | OUTDONE | OUTMO | SPECIAL-REQUEST | DEVICE-STATUS | PREVIOUS-STATUS | UNUSED | STATUS-CHANGED |    CHARACTER    |
--   +---------+-------+-----------------+---------------+-----------------+--------+----------------+-----------------+
-- the control bits, bits 8 to 15 of an OCW for port control (001, 4.2)
--           8              9         10  11       12         13  14  15
--   +----------------+------------+----------+-------------+--------------+
--   | PARITY-INHIBIT | STOP-BAUDS |  LENGTH  | EVEN-PARITY |    SPEED     |
--   +----------------+------------+----------+-------------+--------------+
-- the status word (001, 4.7)
--         0             1             2            3         4 . . . . 10     11 . . . . 15
--   +-----------+---------------+------------+-------------+--------------+---------------+
--   | REAL-TIME | MORE-THAN-ONE | INPUT-DONE | OUTPUT-DONE | PORT-ADDRESS | STATUS-UNUSED |
--   +-----------+---------------+------------+-------------+--------------+---------------+
-- a Mighty Mux's status word (000, 2.4.7, Table 2-3): bits 2 to 15 are an entry of its stack, bits 0 and 1 stand beside the stack
--         0             1              2            3         4 . . . . 10     11 . . . . 15
--   +-----------+----------------+------------+-------------+--------------+---------------+
--   | REAL-TIME | STACK-OVERFLOW | INPUT-DONE | OUTPUT-DONE | PORT-ADDRESS | STATUS-UNUSED |
--   +-----------+----------------+------------+-------------+--------------+---------------+
-- Words 4, 5, 6 and 7 of a block are IBP, OBP, LIB and LOB, whole byte addresses (001, 4.3 to 4.6).
-- Not here: that the fields of a word leave nothing out, and that the bytes of 7-bit ASCII mode are bytes, in laws/Codes.
-- Assumes nothing.
use Rattle.std.specs.Prelude.{ℕ, ◌+◌, ◌%◌, Bool}
use Rattle.ground.specs.Choose.{pick}
use Rattle.words.specs.declared.field.Field.{Field}
use Rattle.words.specs.Field.{bits}

-- ---- the words of a block (document 01, the unit and the host's memory; 001, 2)

abbrev pub at_icw : ℕ
at_icw = 0

abbrev pub at_ocw : ℕ
at_ocw = 1

abbrev pub at_ibp : ℕ
at_ibp = 4

abbrev pub at_obp : ℕ
at_obp = 5

abbrev pub at_lib : ℕ
at_lib = 6

abbrev pub at_lob : ℕ
at_lob = 7

-- ---- ICW

-- bit 0: input done (4.1 bit 0)
abbrev pub INDONE : Field
INDONE = bits 0 0

-- bits 1 and 2: the input mode (4.1 bits 1 and 2)
abbrev pub INMO : Field
INMO = bits 1 2

abbrev pub in_single : ℕ
in_single = 0

-- 001 calls it "Illegal"; it is the one code that asks for no input (document 01, Input 2; docs/DECISIONS.md)
abbrev pub in_none : ℕ
in_none = 1

abbrev pub in_auto : ℕ
in_auto = 2

abbrev pub in_echo : ℕ
in_echo = 3

-- bit 3: 7-bit ASCII mode (4.1 bit 3)
abbrev pub ASCII : Field
ASCII = bits 3 3

-- bits 4 and 5: the receiver flags, which are document 01's error code (4.1 bits 4 and 5)
abbrev pub FLAGS : Field
FLAGS = bits 4 5

abbrev pub flag_none : ℕ
flag_none = 0

abbrev pub flag_parity : ℕ
flag_parity = 1

abbrev pub flag_overload : ℕ
flag_overload = 2

abbrev pub flag_break : ℕ
flag_break = 3

-- bit 6: the echo mark, "Not Echoed" (4.1 bit 6)
abbrev pub NOT-ECHOED : Field
NOT-ECHOED = bits 6 6

-- bit 7: "Mux Service Overload": a character came while INDONE was still set (4.1 bit 7)
abbrev pub SERVICE-OVERLOAD : Field
SERVICE-OVERLOAD = bits 7 7

-- bits 8 to 15, of ICW and of OCW alike (4.1, 4.2)
abbrev pub CHARACTER : Field
CHARACTER = bits 8 15

-- what 7-bit ASCII mode does to a character, to each place by itself
-- the byte stored in the buffer: the top bit becomes 1 (4.1 bit 3)
unfoldable pub stored_byte : Bool → ℕ → ℕ
stored_byte seven c = pick seven (128 + c % 128) c

-- the byte in ICW: the top bit becomes 1 (4.1 bit 3; 7.1 "msb=1")
unfoldable pub word_byte : Bool → ℕ → ℕ
word_byte seven c = pick seven (128 + c % 128) c

-- the echoed byte: 001 is silent, so it is unchanged
unfoldable pub echoed_byte : Bool → ℕ → ℕ
echoed_byte seven c = c

-- bit 6 where an error prevents the echo, and where a special code does: 001 is silent, so it is 0
abbrev pub not_echoed_by_error : ℕ
not_echoed_by_error = 0

abbrev pub not_echoed_by_special : ℕ
not_echoed_by_special = 0

-- ---- OCW

-- bit 0: output done (4.2 bit 0)
abbrev pub OUTDONE : Field
OUTDONE = bits 0 0

-- bits 1 and 2: the output mode (4.2 bits 1 and 2)
abbrev pub OUTMO : Field
OUTMO = bits 1 2

abbrev pub out_none : ℕ
out_none = 0

abbrev pub out_auto : ℕ
out_auto = 1

abbrev pub out_control : ℕ
out_control = 2

abbrev pub out_single : ℕ
out_single = 3

-- bit 3 in automatic output: the special interrupt request (4.2 bit 3, OUTMO 01)
abbrev pub SPECIAL-REQUEST : Field
SPECIAL-REQUEST = bits 3 3

-- bit 3 in port control: the Device Control level (4.2 bit 3, OUTMO 10)
abbrev pub DEVICE-CONTROL : Field
DEVICE-CONTROL = bits 3 3

-- bit 4: the Device Status line, written at each output service (4.2 bit 4)
abbrev pub DEVICE-STATUS : Field
DEVICE-STATUS = bits 4 4

-- bit 5: bit 4 as it was read (4.2 bit 5)
abbrev pub PREVIOUS-STATUS : Field
PREVIOUS-STATUS = bits 5 5

-- bit 6: unused, 0 (4.2 bit 6; D15)
abbrev pub UNUSED : Field
UNUSED = bits 6 6

-- bit 7: Device Status changed: set where the line differs from bit 4 as read, and never cleared (4.2 bit 7; appendix B)
abbrev pub STATUS-CHANGED : Field
STATUS-CHANGED = bits 7 7

-- ---- the control bits

-- bit 8: 1 is no parity (4.2 bit 8)
abbrev pub PARITY-INHIBIT : Field
PARITY-INHIBIT = bits 8 8

-- bit 9: 0 is one stop, 1 is two (4.2 bit 9)
abbrev pub STOP-BAUDS : Field
STOP-BAUDS = bits 9 9

-- bits 10 and 11: 00 to 11 are 5 to 8 data bits (4.2 bits 10 and 11)
abbrev pub LENGTH : Field
LENGTH = bits 10 11

-- bit 12: 0 is odd parity, 1 is even (4.2 bit 12)
abbrev pub EVEN-PARITY : Field
EVEN-PARITY = bits 12 12

-- bits 13 to 15: the speed (4.2 bits 13 to 15; document 01, the eight speeds)
abbrev pub SPEED : Field
SPEED = bits 13 15

-- ---- the status word

-- bit 0: the 10 ms clock (4.7 bit 0; 000, Table 2-3 bit 0)
abbrev pub REAL-TIME : Field
REAL-TIME = bits 0 0

-- bit 1: more than one done since START (4.7 bit 1; document 01, Interrupt)
abbrev pub MORE-THAN-ONE : Field
MORE-THAN-ONE = bits 1 1

-- bit 1 of a Mighty Mux: an interrupt found the stack full (000, Table 2-3 bit 1; docs/DECISIONS.md)
abbrev pub STACK-OVERFLOW : Field
STACK-OVERFLOW = bits 1 1

-- bit 2: input done (4.7 bit 2; 000, Table 2-3 bit 2)
abbrev pub INPUT-DONE : Field
INPUT-DONE = bits 2 2

-- bit 3: output done (4.7 bit 3; 000, Table 2-3 bit 3)
abbrev pub OUTPUT-DONE : Field
OUTPUT-DONE = bits 3 3

-- bits 4 to 10: the address of the port that was done last, or whose entry it is (4.7 bits 4 to 10; 000, Table 2-3 bits 4 to 10)
abbrev pub PORT-ADDRESS : Field
PORT-ADDRESS = bits 4 10

-- bits 11 to 15: 0 (document 01, Interrupt; 000, Table 2-3 bits 11 to 15)
abbrev pub STATUS-UNUSED : Field
STATUS-UNUSED = bits 11 15

-- ---- the halves of a word (document 01, Input 6): even is the left, odd the right

abbrev pub LEFT : Field
LEFT = bits 0 7

abbrev pub RIGHT : Field
RIGHT = bits 8 15
