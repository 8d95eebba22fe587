-- The input service of a port (document 01, Input; document 02, K5: what is special is what the unit's set says).
--   error_code             the code of bits 4 and 5
--   replaced_icw, done_icw  the two ways in which ICW is written
--   input_plan             steps 1 to 6, a branch each
--   input_service          ICW, IBP and LIB read first; IBP, the byte and ICW stored in that order
-- Not here: the bits of ICW and what 7-bit ASCII mode does to a byte, in words' Codes; special codes, in words' Special; when a port is
-- served, and the held character that is taken then, in scan; what follows, in laws/.
-- Assumes nothing.
use Rattle.std.specs.Prelude.{Bool, true, false, not, ◌&&◌, ◌||◌, List, ℕ, ◌+◌, eqb, get_or}
use Rattle.ground.specs.Choose.{pick, bit}
use Rattle.words.specs.Field.{get, put}
use Rattle.words.specs.Codes.{at_icw, at_ibp, at_lib, INDONE, INMO, in_none, in_single, in_echo, ASCII, FLAGS, flag_none, flag_parity, flag_overload, flag_break, NOT-ECHOED, SERVICE-OVERLOAD, CHARACTER, stored_byte, word_byte, echoed_byte, not_echoed_by_error, not_echoed_by_special, PARITY-INHIBIT}
use Rattle.words.specs.Pointer.{step_ptr, at_end}
use Rattle.words.specs.Byte.{word_if, byte_if}
use Rattle.words.specs.Special.{special_in}
use Rattle.unit.specs.declared.mux.Character.{Character}
use Rattle.unit.specs.declared.mux.Port.{Port}
use Rattle.unit.specs.Reply.{Serviced, serviced}
use Rattle.input.specs.Plan.{Plan}

-- overload, else break, else parity (only if control bit 8 is 0), else none
unfoldable pub error_code : ℕ → Character → ℕ
error_code control ch =
    pick ch.overload flag_overload
    (pick ch.brk flag_break (pick (ch.parity && eqb (get PARITY-INHIBIT control) 0) flag_parity flag_none))

-- 7-bit ASCII mode is on
unfoldable pub ascii : ℕ → Bool
ascii icw = eqb (get ASCII icw) 1

-- ICW where INDONE was set: the character and its code replace those there, and bit 7 says that one was lost
unfoldable pub replaced_icw : ℕ → ℕ → ℕ → ℕ
replaced_icw icw code c = put CHARACTER (word_byte (ascii icw) c) (put SERVICE-OVERLOAD 1 (put FLAGS code icw))

-- ICW where the character is done: from the word as read, with bit 0, the code, the echo mark and bits 8 to 15
unfoldable pub done_icw : ℕ → ℕ → ℕ → ℕ → ℕ
done_icw icw code mark c =
    put CHARACTER (word_byte (ascii icw) c) (put NOT-ECHOED mark (put FLAGS code (put INDONE 1 icw)))

-- step 1: ICW is written, and nothing else
unfoldable pub replaced_plan : ℕ → ℕ → ℕ → Plan
replaced_plan icw code c =
    record { store = false; byte = 0; write = true; icw = replaced_icw icw code c; echo = false; raised = false }

-- step 2: dropped
abbrev pub dropped_plan : Plan
dropped_plan = record { store = false; byte = 0; write = false; icw = 0; echo = false; raised = false }

-- done, with no buffer store and no echo
unfoldable pub done_plan : ℕ → ℕ → ℕ → ℕ → Plan
done_plan icw code mark c =
    record { store = false; byte = 0; write = true; icw = done_icw icw code mark c; echo = false; raised = true }

-- step 6: stored; done if the buffer ends with it or its echo finds the transmitter busy
unfoldable pub stored_plan : ℕ → ℕ → Bool → Bool → Bool → Plan
stored_plan icw c last echo empty =
    let busy = echo && not empty in
    record {
      store = true;
      byte = stored_byte (ascii icw) c;
      write = last || busy;
      icw = done_icw icw flag_none (bit busy) c;
      echo = echo && empty;
      raised = last || busy;
    }

-- what is done with the character c, by ICW as read, the error code, whether the buffer ends with the next byte, whether c is special,
-- and whether the transmitter is empty
unfoldable pub input_plan : ℕ → ℕ → ℕ → Bool → Bool → Bool → Plan
input_plan icw code c last special empty =
    -- 1
    pick (eqb (get INDONE icw) 1) (replaced_plan icw code c)
    -- 2
    (pick (eqb (get INMO icw) in_none) dropped_plan
    -- 3
    (pick (eqb (get INMO icw) in_single) (done_plan icw code 0 c)
    -- 4
    (pick (not (eqb code flag_none)) (done_plan icw code not_echoed_by_error c)
    -- 5
    (pick (ascii icw && special) (done_plan icw code not_echoed_by_special c)
    -- 6
    (stored_plan icw c last (eqb (get INMO icw) in_echo) empty)))))

-- the stores of a plan, in order: the pointer, the byte, ICW
unfoldable pub carried : Plan → ℕ → ℕ → List ℕ → List ℕ
carried plan a next m =
    word_if plan.write
    (byte_if plan.store (word_if plan.store m (a + at_ibp) next) next plan.byte)
    (a + at_icw) plan.icw

-- the input service of the port q, whose control block starts at the word a, in a unit with that set of special codes
unfoldable pub input_service : List Bool → List ℕ → ℕ → Port → Serviced
input_service codes m a q =
    let icw = get_or m (a + at_icw) 0 in
    let ibp = get_or m (a + at_ibp) 0 in
    let lib = get_or m (a + at_lib) 0 in
    let c = q.ch.byte in
    let plan = input_plan icw (error_code q.control q.ch) c (at_end ibp lib) (special_in codes c) q.empty in
    serviced
    (record {
      sent = plan.echo;
      byte = pick plan.echo (echoed_byte (ascii icw) c) 0;
      raised = plan.raised;
      control = q.control;
      devcontrol = q.devcontrol;
    })
    (carried plan a (step_ptr ibp) m)
