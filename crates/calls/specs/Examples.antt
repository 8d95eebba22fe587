-- The settled examples of document 01 that are marked *, values of the 1974 manual, and worked examples of five requests, stated of the definitions.
--   Starred   the examples of document 01, in its order
--   Manual    001: section 6 and appendix B, as docs/DECISIONS.md makes them
--   Bases     document 02, K1: where the two numbers of a wrong base begin and end
--   Buffers   document 02, K2: buffers that are set up too short, and buffers that lie on their own port's words
--   Sets      document 02, K5: a name with a glottal stop in it, in units of different sets
--   Stacks    document 02, K6: a Mighty Mux whose stack is filled, overfilled and emptied
--   Boards    document 02, K7: the bases of a Mighty Mux, beside those of an EDS-8
-- Each is computed: a unit is set up and started, calls are made, and what they leave is compared.
-- Not here: that they hold, in laws/Examples; the examples that are run and not proved, in the programs.
-- Assumes nothing.
use Rattle.std.specs.Prelude.{◌≡◌, Bool, true, false, List, [], ◌∷◌, ℕ, ◌+◌, get_or, set, replicate}
use Rattle.words.specs.Field.{get}
use Rattle.words.specs.Codes.{PARITY-INHIBIT, STOP-BAUDS, EVEN-PARITY}
use Rattle.words.specs.Special.{set1974, special_in, dictionary_set}
use Rattle.words.specs.Length.{length_of}
use Rattle.words.specs.Speed.{speed_of}
use Rattle.interrupt.specs.declared.Kind.{Kind}
use Rattle.interrupt.specs.declared.Kind.TheVariants.{Eds8, MightyMux}
use Rattle.interrupt.specs.declared.Service.TheVariants.{Input, Output}
use Rattle.interrupt.specs.Interrupt as Interrupt
use Rattle.unit.specs.declared.mux.Setting.{Setting}
use Rattle.unit.specs.declared.reply.Turn.{Turn}
use Rattle.unit.specs.declared.reply.Turn.TheVariants.{Served}
use Rattle.unit.specs.Record.{fresh, no_mux, port_at}
use Rattle.unit.specs.Reply.{World, world}
use Rattle.unit.specs.Setup.{setup}
use Rattle.lines.specs.declared.signal.Signal.TheVariants.{Arrival, TransmitterEmpty, DeviceStatus}
use Rattle.processor.specs.declared.orders.Order.TheVariants.{Reset, Iopls, Start, Doc, Dia, Dias, Tick}
use Rattle.calls.specs.declared.call.Act.TheVariants.{Line, Processor, Inspect}
use Rattle.calls.specs.Events.{Single, sets_up, does, result, after, run_singles}

-- 32,768 words of 0
abbrev pub clear : List ℕ
clear = replicate 32768 0

-- the setting of a kind of unit, of block size b, P ports and the base, with the 1974 set of special codes
abbrev pub setting_for : Kind → ℕ → ℕ → ℕ → Setting
setting_for k b n base = record { kind = k; block = b; ports = n; base = base; special = set1974 }

-- an EDS-8's
abbrev pub setting_of : ℕ → ℕ → ℕ → Setting
setting_of b n base = setting_for Eds8 b n base

-- a unit of that kind, block size b, P ports and the base, started, on the memory m, after some more single things
abbrev pub kind_after : Kind → ℕ → ℕ → ℕ → List ℕ → List Single → World
kind_after k b n base m xs =
    run_singles (world no_mux m) (sets_up (setting_for k b n base) ∷ does (Processor Doc) ∷ xs)

-- an EDS-8
abbrev pub unit_after : ℕ → ℕ → ℕ → List ℕ → List Single → World
unit_after b n base m xs = kind_after Eds8 b n base m xs

-- an inspection
abbrev pub look : Single
look = does Inspect

-- a character of code c arrives at port p, with no marks
abbrev pub typed : ℕ → ℕ → Single
typed p c = does (Line p (Arrival c false false))

-- what was served by each of a list of inspections
unfoldable pub turns_of : World → List Single → List Turn
turns_of w [] = []
turns_of w (x ∷ xs) = (result w x).reply.answer.turn ∷ turns_of (after w x) xs

-- the number that setup gives
abbrev pub code_for : Kind → ℕ → ℕ → ℕ → ℕ
code_for k b n base = (setup (setting_for k b n base)).reply.code

-- to an EDS-8
abbrev pub code_of : ℕ → ℕ → ℕ → ℕ
code_of b n base = code_for Eds8 b n base

-- the status word, as DIA returns it
abbrev pub status_of : World → ℕ
status_of w = (result w (does (Processor Dia))).reply.value

-- ---- document 01

-- automatic input, ICW 40000 octal, into the buffer after IBP up to LIB: one port, its block at word 64
abbrev pub filling : ℕ → ℕ → List ℕ
filling ibp lib = set (set (set clear 64 0o40000) 68 ibp) 70 lib

-- three characters typed, each served
abbrev pub three : List Single
three = typed 0 1 ∷ look ∷ typed 0 2 ∷ look ∷ typed 0 3 ∷ look ∷ []

-- base 15360, b 32: a character typed at port 0, which is in single mode, and one to send at port 1, OCW 60101 octal
abbrev pub both : World
both = unit_after 32 2 15360 (set clear 15393 0o60101) (typed 0 7 ∷ [])

-- four ports, the position at 1 after one inspection, and a character typed at port 0
abbrev pub waiting : World
waiting = unit_after 8 4 64 clear (look ∷ typed 0 7 ∷ [])

pub record Starred : Type 0 where
  -- b 32, base 256: P 120 accepted, P 121 gives 4
  pub ports_120 : code_of 32 120 256 ≡ 0
  pub ports_121 : code_of 32 121 256 ≡ 4
  -- b 8, P 8: base 64 accepted, base 32 gives 3
  pub base_64 : code_of 8 8 64 ≡ 0
  pub base_32 : code_of 8 8 32 ≡ 3
  -- b 32, base 15360: P 32 accepted, P 33 gives 4
  pub ports_32 : code_of 32 32 15360 ≡ 0
  pub ports_33 : code_of 32 33 15360 ≡ 4
  -- b 7 and P 0 together give 1
  pub first_number : code_of 7 0 64 ≡ 1
  -- codes 31, 124 and 127 special; 32 and 123 not: in the 1974 set, which is the default since K5
  pub special_31 : special_in set1974 31 ≡ true
  pub special_124 : special_in set1974 124 ≡ true
  pub special_127 : special_in set1974 127 ≡ true
  pub ordinary_32 : special_in set1974 32 ≡ false
  pub ordinary_123 : special_in set1974 123 ≡ false
  -- IBP 2000, LIB 2003: the right half of word 1000, the left and the right of 1001; the third is done
  pub first_byte : get_or (unit_after 8 1 64 (filling 2000 2003) three).memory 1000 0 ≡ 1
  pub next_bytes : get_or (unit_after 8 1 64 (filling 2000 2003) three).memory 1001 0 ≡ 0x0203
  pub full_pointer : get_or (unit_after 8 1 64 (filling 2000 2003) three).memory 68 0 ≡ 2003
  pub full_done : get_or (unit_after 8 1 64 (filling 2000 2003) three).memory 64 0 ≡ 0o140003
  pub not_done_yet : get_or (unit_after 8 1 64 (filling 2000 2003) (typed 0 1 ∷ look ∷ typed 0 2 ∷ look ∷ [])).memory 64 0 ≡ 0o40000
  -- IBP 65535: the byte goes to the left half of word 0
  pub wrapped : get_or (unit_after 8 1 64 (filling 65535 2003) (typed 0 1 ∷ look ∷ [])).memory 0 0 ≡ 0x0100
  -- base 15360, b 32: input done on port 0 gives status 11264; then output done on port 1 gives 31776
  pub status_in : status_of (run_singles both (look ∷ [])) ≡ 11264
  pub status_out : status_of (run_singles both (look ∷ look ∷ [])) ≡ 31776
  -- a tick alone gives 32768
  pub status_tick : status_of (unit_after 32 2 15360 clear (does (Processor Iopls) ∷ does (Processor Tick) ∷ [])) ≡ 32768
  -- P 4, position 1, a character at port 0: served by the fourth inspection; position 0: by the first
  pub fourth : turns_of waiting (look ∷ look ∷ look ∷ look ∷ []) ≡ Served Output ∷ Served Output ∷ Served Output ∷ Served Input ∷ []
  pub first : turns_of (unit_after 8 4 64 clear (typed 0 7 ∷ [])) (look ∷ []) ≡ Served Input ∷ []

-- ---- the manual of 1974

-- the Device Status line of port 0 goes up
abbrev pub raised : Single
raised = does (Line 0 (DeviceStatus true))

-- one port, its block at word 64, with that OCW, after some calls
abbrev pub with_ocw : ℕ → List Single → World
with_ocw ocw xs = unit_after 8 1 64 (set clear 65 ocw) xs

pub record Manual : Type 0 where
  -- section 6: OCW 50360 octal: Device Control 1, no parity, two stops, 8 bits, odd parity's code, 110 baud; output done
  pub controls : (port_at (with_ocw 0o50360 (look ∷ [])).mux 0).control ≡ 0o360
  pub device_control : (port_at (with_ocw 0o50360 (look ∷ [])).mux 0).devcontrol ≡ true
  pub no_parity : get PARITY-INHIBIT 0o360 ≡ 1
  pub two_stops : get STOP-BAUDS 0o360 ≡ 1
  pub eight_bits : length_of 0o360 ≡ 8
  pub odd : get EVEN-PARITY 0o360 ≡ 0
  pub speed : speed_of 0o360 ≡ 110
  pub controls_done : get_or (with_ocw 0o50360 (look ∷ [])).memory 65 0 ≡ 0o150360
  -- appendix B: OCW 40000 becomes 140000 with Device Status 0
  pub line_down : get_or (with_ocw 0o40000 (look ∷ [])).memory 65 0 ≡ 0o140000
  pub line_down_still : get_or (with_ocw 0o40000 (look ∷ look ∷ [])).memory 65 0 ≡ 0o140000
  -- and ends as 146400 with Device Status 1
  pub line_up : get_or (with_ocw 0o40000 (raised ∷ look ∷ [])).memory 65 0 ≡ 0o144400
  pub line_up_ends : get_or (with_ocw 0o40000 (raised ∷ look ∷ look ∷ [])).memory 65 0 ≡ 0o146400
  pub line_up_stays : get_or (with_ocw 0o40000 (raised ∷ look ∷ look ∷ look ∷ [])).memory 65 0 ≡ 0o146400

-- ---- document 02

pub record Bases : Type 0 where
  -- b 8, P 1: the last multiple of 64 in the memory, the last word, the word after it, the last multiple of 64 that a setting can have
  pub last_taken : code_of 8 1 32704 ≡ 0
  pub last_word : code_of 8 1 32767 ≡ 3
  pub first_high : code_of 8 1 32768 ≡ 11
  pub last_high : code_of 8 1 4294967232 ≡ 11
  -- both faults give 3; a block size or a number of ports that is wrong too comes first
  pub both_faults : code_of 8 1 32769 ≡ 3
  pub block_first : code_of 7 1 32768 ≡ 1
  pub ports_first : code_of 8 0 32768 ≡ 2
  -- 11 comes before 4: 121 blocks from 32832 on cross a multiple of 1024, as they do from 64 on
  pub before_crossing : code_of 8 121 32832 ≡ 11
  pub crossing : code_of 8 121 64 ≡ 4

-- one port, its block at word 64, in automatic input with IBP and LIB, after a character of code 1 is typed and served
abbrev pub typed_into : ℕ → ℕ → List ℕ
typed_into ibp lib = (unit_after 8 1 64 (filling ibp lib) (typed 0 1 ∷ look ∷ [])).memory

-- automatic output, OCW 20000 octal, from the buffer after OBP up to LOB: one port, its block at word 64
abbrev pub emptying : ℕ → ℕ → List ℕ
emptying obp lob = set (set (set clear 65 0o20000) 69 obp) 71 lob

-- after one inspection
abbrev pub sent_from : ℕ → ℕ → List ℕ
sent_from obp lob = (unit_after 8 1 64 (emptying obp lob) (look ∷ [])).memory

-- 001, appendix B: octal 40000 in every word, and a character comes
abbrev pub noise : List ℕ
noise = (unit_after 8 1 64 (replicate 32768 0o40000) (typed 0 1 ∷ look ∷ [])).memory

-- two bytes to send, LOB at OBP + 2, and between the two output services an input of the same port, of code 31
abbrev pub crossed : List ℕ → List ℕ
crossed m = (unit_after 8 1 64 m (look ∷ typed 0 31 ∷ look ∷ does (Line 0 TransmitterEmpty) ∷ look ∷ [])).memory

-- the input in automatic mode, its next place the left half of the word 71, which is LOB; or of the word 100
abbrev pub on_lob : List ℕ
on_lob = set (set (set (emptying 2000 2002) 64 0o40000) 68 141) 70 300

abbrev pub beside_lob : List ℕ
beside_lob = set (set (set (emptying 2000 2002) 64 0o40000) 68 199) 70 300

-- a buffer of two bytes for eight-bit characters, OCW 40060 octal; then two characters of code c are typed, each served
abbrev pub twice : ℕ → ℕ → List ℕ
twice ibp c = (unit_after 8 1 64 (set (filling ibp (ibp + 2)) 65 0o40060) (look ∷ typed 0 c ∷ look ∷ typed 0 c ∷ look ∷ [])).memory

pub record Buffers : Type 0 where
  -- IBP 2003 with LIB 2003: stored at 2004, the left half of word 1002, and done
  pub at_byte : get_or (typed_into 2003 2003) 1002 0 ≡ 0x0100
  pub at_pointer : get_or (typed_into 2003 2003) 68 0 ≡ 2004
  pub at_done : get_or (typed_into 2003 2003) 64 0 ≡ 0o140001
  -- far past its end; with an end of 0
  pub past_done : get_or (typed_into 40000 2003) 64 0 ≡ 0o140001
  pub zero_done : get_or (typed_into 2003 0) 64 0 ≡ 0o140001
  -- one place before its end it is done; two before, it is not
  pub one_done : get_or (typed_into 2002 2003) 64 0 ≡ 0o140001
  pub two_not : get_or (typed_into 2001 2003) 64 0 ≡ 0o40000
  -- IBP 65535: done with any end, here 0, 2003 and 65535; the byte in the left half of word 0
  pub top_zero : get_or (typed_into 65535 0) 64 0 ≡ 0o140001
  pub top_done : get_or (typed_into 65535 2003) 64 0 ≡ 0o140001
  pub top_top : get_or (typed_into 65535 65535) 64 0 ≡ 0o140001
  pub top_pointer : get_or (typed_into 65535 65535) 68 0 ≡ 0
  pub top_byte : get_or (typed_into 65535 65535) 0 0 ≡ 0x0100
  -- IBP 65534 with LIB 65535: done, at the last place of the memory
  pub last_done : get_or (typed_into 65534 65535) 64 0 ≡ 0o140001
  pub last_byte : get_or (typed_into 65534 65535) 32767 0 ≡ 1
  -- output alike: LOB at OBP, a buffer that would have to go round (OBP 65530, LOB 5), and OBP 65535
  pub out_at : get_or (sent_from 2003 2003) 65 0 ≡ 0o120000
  pub out_round : get_or (sent_from 65530 5) 65 0 ≡ 0o120000
  pub out_round_pointer : get_or (sent_from 65530 5) 69 0 ≡ 65531
  pub out_top : get_or (sent_from 65535 65535) 65 0 ≡ 0o120000
  pub out_top_pointer : get_or (sent_from 65535 65535) 69 0 ≡ 0
  -- appendix B: "data (or noise) is coming in": ICW changes, and IBP is incremented to 40001
  pub noise_icw : get_or noise 64 0 ≡ 0o140001
  pub noise_ibp : get_or noise 68 0 ≡ 0o40001
  -- two output services end a buffer of two bytes, with an input between them that lies elsewhere; not where the input lies on LOB
  pub beside_done : get_or (crossed beside_lob) 65 0 ≡ 0o120000
  pub across_pointer : get_or (crossed on_lob) 69 0 ≡ 2002
  pub across_not_done : get_or (crossed on_lob) 65 0 ≡ 0o20000
  pub across_end : get_or (crossed on_lob) 71 0 ≡ 0x1FD2
  -- two characters end an input buffer of two bytes that lies elsewhere; not one on its own ICW, whose mode they change, nor one on its
  -- own LIB, which they move, nor one on its own IBP, which they put back: that one may have no end
  pub own_none : get_or (twice 2000 136) 64 0 ≡ 0o140210
  pub own_icw : get_or (twice 127 32) 64 0 ≡ 0o20000
  pub own_lib : get_or (twice 139 255) 64 0 ≡ 0o40000
  pub own_ibp : get_or (twice 136 136) 64 0 ≡ 0o40000
  pub own_ibp_back : get_or (twice 136 136) 68 0 ≡ 136

-- one port, its block at word 64, in a unit with that set, started, on the memory m, after some more single things
abbrev pub school_after : List Bool → List ℕ → List Single → World
school_after codes m xs =
    run_singles (world no_mux m) (sets_up (record { kind = Eds8; block = 8; ports = 1; base = 64; special = codes }) ∷ does (Processor Doc) ∷ xs)

-- 7-bit ASCII automatic input, ICW 50000 octal, of eight-bit characters, OCW 40060 octal, with IBP 2000 and LIB 2010; some characters are typed, each
-- served
abbrev pub served : List ℕ → List Single
served [] = []
served (c ∷ cs) = typed 0 c ∷ look ∷ served cs

abbrev pub named : List Bool → List ℕ → List ℕ
named codes cs = (school_after codes (set (set (filling 2000 2010) 64 0o50000) 65 0o40060) (look ∷ served cs)).memory

-- automatic output with a special request, OCW 30000 octal, from the buffer after OBP 2000 up to LOB 2010, whose first byte is b; after one inspection
abbrev pub handed : List Bool → ℕ → List ℕ
handed codes b = (school_after codes (set (set (emptying 2000 2010) 65 0o30000) 1000 b) (look ∷ [])).memory

pub record Sets : Type 0 where
  -- A, the glottal stop and B typed at a unit of the dictionary's set: they stand side by side in the buffer, IBP names the third, and ICW is as it was
  pub kept_first : get_or (named dictionary_set (0o101 ∷ 0o174 ∷ 0o102 ∷ [])) 1000 0 ≡ 0x00C1
  pub kept_next : get_or (named dictionary_set (0o101 ∷ 0o174 ∷ 0o102 ∷ [])) 1001 0 ≡ 0xFCC2
  pub kept_pointer : get_or (named dictionary_set (0o101 ∷ 0o174 ∷ 0o102 ∷ [])) 68 0 ≡ 2003
  pub kept_icw : get_or (named dictionary_set (0o101 ∷ 0o174 ∷ 0o102 ∷ [])) 64 0 ≡ 0o50000
  -- at a unit of the 1974 set the glottal stop is in ICW, done, and the buffer has A alone
  pub apart_first : get_or (named set1974 (0o101 ∷ 0o174 ∷ [])) 1000 0 ≡ 0x00C1
  pub apart_next : get_or (named set1974 (0o101 ∷ 0o174 ∷ [])) 1001 0 ≡ 0
  pub apart_pointer : get_or (named set1974 (0o101 ∷ 0o174 ∷ [])) 68 0 ≡ 2001
  pub apart_icw : get_or (named set1974 (0o101 ∷ 0o174 ∷ [])) 64 0 ≡ 0o150374
  -- the top bit is no part of a code: octal 374 is ordinary with octal 174
  pub top_bit : get_or (named dictionary_set (0o374 ∷ [])) 1000 0 ≡ 0x00FC
  -- every code special: A is in ICW; every code ordinary: a carriage return is in the buffer
  pub all_special : get_or (named (replicate 128 true) (0o101 ∷ [])) 64 0 ≡ 0o150301
  pub all_ordinary : get_or (named (replicate 128 false) (0o15 ∷ [])) 1000 0 ≡ 0x008D
  -- output with a special request: the glottal stop is done by the 1974 set and not by the dictionary's, where a carriage return still is
  pub sent_special : get_or (handed set1974 0o174) 65 0 ≡ 0o130000
  pub sent_ordinary : get_or (handed dictionary_set 0o174) 65 0 ≡ 0o30000
  pub sent_return : get_or (handed dictionary_set 0o15) 65 0 ≡ 0o130000
  -- a reset keeps the set, and so does a setup that is refused; an accepted one brings its own
  pub reset_keeps : (school_after dictionary_set clear (does (Processor Reset) ∷ [])).mux.setting.special ≡ dictionary_set
  pub refused_keeps : (school_after dictionary_set clear (sets_up (setting_of 7 1 64) ∷ [])).mux.setting.special ≡ dictionary_set
  pub accepted_brings : (school_after dictionary_set clear (sets_up (setting_of 8 1 64) ∷ [])).mux.setting.special ≡ set1974

-- the two ports of `both`, in a Mighty Mux: after some more single things
abbrev pub stacked : List Single → World
stacked xs = kind_after MightyMux 32 2 15360 (set clear 15393 0o60101) (typed 0 7 ∷ xs)

-- START, and a tick with the clock on
abbrev pub start : Single
start = does (Processor Start)

abbrev pub ticks : List Single
ticks = does (Processor Iopls) ∷ does (Processor Tick) ∷ []

-- a Mighty Mux of 41 ports, b 8, base 256, each with a character to send in single mode, OCW 60101 octal, after some more single things
abbrev pub crowd : List Single → World
crowd xs = kind_after MightyMux 8 41 256 (replicate 32768 0o60101) xs

-- 40 of them served; then the last
abbrev pub full : World
full = crowd (replicate 40 look)

abbrev pub over : World
over = run_singles full (look ∷ [])

pub record Stacks : Type 0 where
  -- input done on port 0, whose address is 96, gives 11264 as on an EDS-8; output done on port 1 is behind it, 7200, without the other's bits
  pub first_in : status_of (stacked (look ∷ [])) ≡ 11264
  pub first_still : status_of (stacked (look ∷ look ∷ [])) ≡ 11264
  pub next : status_of (stacked (look ∷ look ∷ start ∷ [])) ≡ 7200
  pub next_flag : (stacked (look ∷ look ∷ start ∷ [])).mux.irq.flag ≡ true
  -- DIAS reads, then does START
  pub dias : (result (stacked (look ∷ look ∷ [])) (does (Processor Dias))).reply.value ≡ 11264
  pub dias_next : status_of (stacked (look ∷ look ∷ does (Processor Dias) ∷ [])) ≡ 7200
  -- the last one removed: 0, and the flag off; START on an empty stack leaves it so
  pub last : status_of (stacked (look ∷ look ∷ start ∷ start ∷ [])) ≡ 0
  pub last_flag : (stacked (look ∷ look ∷ start ∷ start ∷ [])).mux.irq.flag ≡ false
  pub empty_start : (stacked (look ∷ look ∷ start ∷ start ∷ start ∷ [])).mux.irq ≡ Interrupt.fresh
  -- a tick alone gives 32768 and no entry; beside an entry it is bit 0 of the word, until START
  pub tick_alone : status_of (kind_after MightyMux 32 2 15360 clear ticks) ≡ 32768
  pub tick_flag : (kind_after MightyMux 32 2 15360 clear ticks).mux.irq.flag ≡ true
  pub tick_fill : (kind_after MightyMux 32 2 15360 clear ticks).mux.irq.fill ≡ 0
  pub tick_beside : status_of (run_singles (stacked (look ∷ look ∷ [])) ticks) ≡ 44032
  pub tick_gone : status_of (run_singles (run_singles (stacked (look ∷ look ∷ [])) ticks) (start ∷ [])) ≡ 7200
  -- 40 entries, none lost; the 41st interrupt is raised and its OCW written, but not queued: bit 1 beside the oldest entry
  pub forty : full.mux.irq.fill ≡ 40
  pub forty_shown : status_of full ≡ 5120
  pub lost_raised : (result full look).reply.answer.raised ≡ true
  pub lost_written : get_or over.memory 577 0 ≡ 0o160101
  pub lost_fill : over.mux.irq.fill ≡ 40
  pub lost_shown : status_of over ≡ 21504
  -- START leaves the mark while entries remain, and clears it with the last
  pub lost_next : status_of (run_singles over (start ∷ [])) ≡ 21536
  pub lost_last : status_of (run_singles over (replicate 39 start)) ≡ 22752
  pub lost_gone : (run_singles over (replicate 40 start)).mux.irq ≡ Interrupt.fresh
  -- reset empties the stack and clears the mark
  pub reset_gone : (run_singles over (does (Processor Reset) ∷ [])).mux.irq ≡ Interrupt.fresh

-- the number that setup gives to a Mighty Mux
abbrev pub board_of : ℕ → ℕ → ℕ → ℕ
board_of b n base = code_for MightyMux b n base

-- the number of a DOC at a record of that kind that no setup made: one port, b 8, base 64
abbrev pub doc_at : Kind → ℕ
doc_at k = (result (world (fresh (setting_for k 8 1 64)) clear) (does (Processor Doc))).reply.code

pub record Boards : Type 0 where
  -- b 8, base 64: a multiple of 64 alone gives 12, and an EDS-8 takes it
  pub alone : board_of 8 1 64 ≡ 12
  pub alone_eds_8 : code_of 8 1 64 ≡ 0
  -- base 32832, which is no multiple of octal 400 either: 11 comes before 12
  pub high_first : board_of 8 1 32832 ≡ 11
  -- base 256: P 96 accepted, P 97 gives 4, as to an EDS-8
  pub ports_96 : board_of 8 96 256 ≡ 0
  pub ports_97 : board_of 8 97 256 ≡ 4
  pub ports_97_eds_8 : code_of 8 97 256 ≡ 4
  -- b 16, base 128: 12, and an EDS-8 takes it
  pub sixteen : board_of 16 1 128 ≡ 12
  pub sixteen_eds_8 : code_of 16 1 128 ≡ 0
  -- no multiple of 8b, and so none of octal 400: 3, in every block size
  pub both_8 : board_of 8 1 32 ≡ 3
  pub both_16 : board_of 16 1 64 ≡ 3
  pub both_32 : board_of 32 1 128 ≡ 3
  -- 12 comes before 4: 121 blocks from 64 on cross a multiple of 1024
  pub before_crossing : board_of 8 121 64 ≡ 12
  pub crossing_eds_8 : code_of 8 121 64 ≡ 4
  -- a block size or a number of ports that is wrong too comes first
  pub block_first : board_of 7 1 64 ≡ 1
  pub ports_first : board_of 8 0 64 ≡ 2
  -- octal 400 and not 200 or 1000; the least base, the last, and the board as delivered, octal 36000
  pub octal_200 : board_of 8 1 0o200 ≡ 12
  pub octal_400 : board_of 8 1 0o400 ≡ 0
  pub octal_600 : board_of 8 1 0o600 ≡ 12
  pub least : board_of 8 128 0 ≡ 0
  pub last : board_of 8 32 32512 ≡ 0
  pub delivered : board_of 32 32 0o36000 ≡ 0
  -- a record of that kind with its base at a multiple of 64 alone is unsound, and an EDS-8's is not
  pub record_refused : doc_at MightyMux ≡ 6
  pub record_taken : doc_at Eds8 ≡ 0
