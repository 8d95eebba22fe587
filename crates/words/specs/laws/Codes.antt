-- The table of codes, held to the manual (001).
--   icw_drawn .. halves_drawn      each word is its fields side by side: none twice, nothing left out, each with its weight
--   input_modes .. output_modes    the codes of two bits, in the order of 001's tables, 00 first
--   stored_fits, word_fits         what 7-bit ASCII mode makes of a byte is a byte
-- Not here: the table of codes, in specs/Codes.
-- Assumes nothing.
use Rattle.std.specs.Prelude.{◌≡◌, ℕ, ◌+◌, ◌*◌, ◌%◌, ◌<◌, Bool, true, false, T, [], ◌∷◌, nat_lt, refl}
use Rattle.std.proofs.Common.{sym, ◌∙◌, ap, mod-eq_of_lt, div-one, arith, lit<}
use Rattle.std.proofs.Math.Arith.{mod-mul}
use Rattle.ground.specs.Choose.{pick}
use Rattle.words.specs.declared.field.Field.{Field}
use Rattle.words.specs.Field.{get}
use Rattle.words.specs.Codes.{INDONE, INMO, in_single, in_none, in_auto, in_echo, ASCII, FLAGS, flag_none, flag_parity, flag_overload, flag_break, NOT-ECHOED, SERVICE-OVERLOAD, CHARACTER, stored_byte, word_byte, OUTDONE, OUTMO, out_none, out_auto, out_control, out_single, SPECIAL-REQUEST, DEVICE-CONTROL, DEVICE-STATUS, PREVIOUS-STATUS, UNUSED, STATUS-CHANGED, PARITY-INHIBIT, STOP-BAUDS, LENGTH, EVEN-PARITY, SPEED, REAL-TIME, MORE-THAN-ONE, STACK-OVERFLOW, INPUT-DONE, OUTPUT-DONE, PORT-ADDRESS, STATUS-UNUSED, LEFT, RIGHT}

-- ---- each word is its fields side by side

-- the low bits of a word are a field and what stands below it
first : (f : Field) (w : ℕ) → T (nat_lt 0 f.span) → T (nat_lt 0 f.unit) → w % (f.span * f.unit) ≡ get f w * f.unit + w % f.unit
unfolding get
first f w s u = mod-mul w (lit< s) (lit< u)

-- the same, below fields that add up to a
next : (f : Field) (a w : ℕ) → T (nat_lt 0 f.span) → T (nat_lt 0 f.unit) → a + w % (f.span * f.unit) ≡ a + get f w * f.unit + w % f.unit
next f a w s u = omega (arith, first f w s u)

-- a field with nothing below it
lowest : (f : Field) (w : ℕ) → f.unit ≡ 1 → w % f.span ≡ get f w
unfolding get
lowest f w e = rw (e, div-one)

-- the same, below fields that add up to a
last : (f : Field) (a w : ℕ) → f.unit ≡ 1 → a + w % f.span ≡ a + get f w
last f a w e = ap (λ (x : ℕ). a + x) (lowest f w e)

-- ICW (4.1)
pub icw_drawn : (w : ℕ) → w < 65536 → w ≡ get INDONE w * 32768 + get INMO w * 8192 + get ASCII w * 4096 + get FLAGS w * 1024 + get NOT-ECHOED w * 512 + get SERVICE-OVERLOAD w * 256 + get CHARACTER w
icw_drawn w h =
    sym (mod-eq_of_lt h)
    ∙ first INDONE w tt tt
    ∙ next INMO _ w tt tt
    ∙ next ASCII _ w tt tt
    ∙ next FLAGS _ w tt tt
    ∙ next NOT-ECHOED _ w tt tt
    ∙ next SERVICE-OVERLOAD _ w tt tt
    ∙ last CHARACTER _ w refl

-- OCW (4.2)
pub ocw_drawn : (w : ℕ) → w < 65536 → w ≡ get OUTDONE w * 32768 + get OUTMO w * 8192 + get SPECIAL-REQUEST w * 4096 + get DEVICE-STATUS w * 2048 + get PREVIOUS-STATUS w * 1024 + get UNUSED w * 512 + get STATUS-CHANGED w * 256 + get CHARACTER w
ocw_drawn w h =
    sym (mod-eq_of_lt h)
    ∙ first OUTDONE w tt tt
    ∙ next OUTMO _ w tt tt
    ∙ next SPECIAL-REQUEST _ w tt tt
    ∙ next DEVICE-STATUS _ w tt tt
    ∙ next PREVIOUS-STATUS _ w tt tt
    ∙ next UNUSED _ w tt tt
    ∙ next STATUS-CHANGED _ w tt tt
    ∙ last CHARACTER _ w refl

-- bit 3 of OCW has two names (4.2 bit 3)
pub bit_3 : DEVICE-CONTROL ≡ SPECIAL-REQUEST
bit_3 = refl

-- the control bits, which are bits 8 to 15 of an OCW for port control (4.2)
pub control_drawn : (w : ℕ) → get CHARACTER w ≡ get PARITY-INHIBIT w * 128 + get STOP-BAUDS w * 64 + get LENGTH w * 16 + get EVEN-PARITY w * 8 + get SPEED w
control_drawn w =
    sym (lowest CHARACTER w refl)
    ∙ first PARITY-INHIBIT w tt tt
    ∙ next STOP-BAUDS _ w tt tt
    ∙ next LENGTH _ w tt tt
    ∙ next EVEN-PARITY _ w tt tt
    ∙ last SPEED _ w refl

-- the status word (4.7)
pub status_drawn : (w : ℕ) → w < 65536 → w ≡ get REAL-TIME w * 32768 + get MORE-THAN-ONE w * 16384 + get INPUT-DONE w * 8192 + get OUTPUT-DONE w * 4096 + get PORT-ADDRESS w * 32 + get STATUS-UNUSED w
status_drawn w h =
    sym (mod-eq_of_lt h)
    ∙ first REAL-TIME w tt tt
    ∙ next MORE-THAN-ONE _ w tt tt
    ∙ next INPUT-DONE _ w tt tt
    ∙ next OUTPUT-DONE _ w tt tt
    ∙ next PORT-ADDRESS _ w tt tt
    ∙ last STATUS-UNUSED _ w refl

-- bit 1 of the status word has two names, one for each kind of unit (4.7 bit 1; 000, Table 2-3 bit 1): so a Mighty Mux's word is drawn as well
pub bit_1 : STACK-OVERFLOW ≡ MORE-THAN-ONE
bit_1 = refl

-- a word of a buffer
pub halves_drawn : (w : ℕ) → w < 65536 → w ≡ get LEFT w * 256 + get RIGHT w
halves_drawn w h =
    sym (mod-eq_of_lt h)
    ∙ first LEFT w tt tt
    ∙ last RIGHT _ w refl

-- ---- the codes of two bits, 00 first

-- 4.1 bits 1 and 2
pub input_modes : in_single ∷ in_none ∷ in_auto ∷ in_echo ∷ [] ≡ 0b00 ∷ 0b01 ∷ 0b10 ∷ 0b11 ∷ []
input_modes = refl

-- 4.1 bits 4 and 5
pub receiver_flags : flag_none ∷ flag_parity ∷ flag_overload ∷ flag_break ∷ [] ≡ 0b00 ∷ 0b01 ∷ 0b10 ∷ 0b11 ∷ []
receiver_flags = refl

-- 4.2 bits 1 and 2
pub output_modes : out_none ∷ out_auto ∷ out_control ∷ out_single ∷ [] ≡ 0b00 ∷ 0b01 ∷ 0b10 ∷ 0b11 ∷ []
output_modes = refl

-- ---- 7-bit ASCII mode

marked_fits : (s : Bool) (c : ℕ) → c < 256 → pick s (128 + c % 128) c < 256
unfolding pick
marked_fits true c h = omega arith
marked_fits false c h = h

pub stored_fits : (s : Bool) (c : ℕ) → c < 256 → stored_byte s c < 256
unfolding stored_byte
stored_fits s c h = marked_fits s c h

pub word_fits : (s : Bool) (c : ℕ) → c < 256 → word_byte s c < 256
unfolding word_byte
word_fits s c h = marked_fits s c h
