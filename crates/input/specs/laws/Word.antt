-- What the host reads of ICW after it was written (document 01, Input 1 and "Done"), field by field.
--   code_fits     an error code is one of the four
--   done-..       of the word of a character that is done
--   replaced-..   of the word where a character replaced the one before
-- Not here: when ICW is written at all, in Input; that the host's memory then has the word, in Automatic.
-- Assumes nothing.
use Rattle.std.specs.Prelude.{◌≡◌, Bool, true, false, ◌&&◌, ℕ, ◌*◌, ◌<◌, eqb}
use Rattle.std.proofs.Common.{◌∙◌, lit<}
use Rattle.std.proofs.Math.Path.{refl}
use Rattle.ground.specs.Choose.{pick}
use Rattle.words.specs.declared.field.Field.{Field}
use Rattle.words.specs.Field.{get, put}
use Rattle.words.specs.laws.Field.{whole, get-put, get_put_above, get_put_below}
use Rattle.words.specs.Codes.{INDONE, INMO, ASCII, FLAGS, flag_none, flag_parity, flag_overload, flag_break, NOT-ECHOED, SERVICE-OVERLOAD, CHARACTER, PARITY-INHIBIT, word_byte}
use Rattle.unit.specs.declared.mux.Character.{Character}
use Rattle.input.specs.Input.{error_code, ascii, replaced_icw, done_icw}

pub code_fits : (control : ℕ) (ch : Character) → error_code control ch < 4
unfolding error_code pick
code_fits control ch = by ch.overload ch.brk (ch.parity && eqb (get PARITY-INHIBIT control) 0)
  where
    by : (o b p : Bool) → pick o flag_overload (pick b flag_break (pick p flag_parity flag_none)) < 4
    by true b p = lit< tt
    by false true p = lit< tt
    by false false true = lit< tt
    by false false false = lit< tt

-- the character is put in last, and moves no field above its own
beside : (g : Field) (k icw w c : ℕ) → word_byte (ascii icw) c < 256 → g.unit ≡ CHARACTER.unit * CHARACTER.span * k → get g (put CHARACTER (word_byte (ascii icw) c) w) ≡ get g w
beside g k icw w c byte e = get_put_above CHARACTER g k _ w e (whole CHARACTER tt tt refl) byte

module _ (icw code mark c : ℕ) (code_below : code < 4) (mark-below : mark < 2) (byte : word_byte (ascii icw) c < 256) where
  pub done_character : get CHARACTER (done_icw icw code mark c) ≡ word_byte (ascii icw) c
  unfolding done_icw
  done_character = get-put CHARACTER _ _ (whole CHARACTER tt tt refl) byte

  pub done_mark : get NOT-ECHOED (done_icw icw code mark c) ≡ mark
  unfolding done_icw
  done_mark =
      beside NOT-ECHOED 2 _ _ c byte refl
      ∙ get-put NOT-ECHOED mark _ (whole NOT-ECHOED tt tt refl) mark-below

  pub done_flags : get FLAGS (done_icw icw code mark c) ≡ code
  unfolding done_icw
  done_flags =
      beside FLAGS 4 _ _ c byte refl
      ∙ get_put_above NOT-ECHOED FLAGS 1 mark _ refl (whole NOT-ECHOED tt tt refl) mark-below
      ∙ get-put FLAGS code _ (whole FLAGS tt tt refl) code_below

  pub done_ascii : get ASCII (done_icw icw code mark c) ≡ get ASCII icw
  unfolding done_icw
  done_ascii =
      beside ASCII 16 _ _ c byte refl
      ∙ get_put_above NOT-ECHOED ASCII 4 mark _ refl (whole NOT-ECHOED tt tt refl) mark-below
      ∙ get_put_above FLAGS ASCII 1 code _ refl (whole FLAGS tt tt refl) code_below
      ∙ get_put_below INDONE ASCII 4 1 icw refl (whole ASCII tt tt refl)

  pub done_mode : get INMO (done_icw icw code mark c) ≡ get INMO icw
  unfolding done_icw
  done_mode =
      beside INMO 32 _ _ c byte refl
      ∙ get_put_above NOT-ECHOED INMO 8 mark _ refl (whole NOT-ECHOED tt tt refl) mark-below
      ∙ get_put_above FLAGS INMO 2 code _ refl (whole FLAGS tt tt refl) code_below
      ∙ get_put_below INDONE INMO 1 1 icw refl (whole INMO tt tt refl)

  pub done_overload : get SERVICE-OVERLOAD (done_icw icw code mark c) ≡ get SERVICE-OVERLOAD icw
  unfolding done_icw
  done_overload =
      beside SERVICE-OVERLOAD 1 _ _ c byte refl
      ∙ get_put_below NOT-ECHOED SERVICE-OVERLOAD 1 mark _ refl (whole SERVICE-OVERLOAD tt tt refl)
      ∙ get_put_below FLAGS SERVICE-OVERLOAD 2 code _ refl (whole SERVICE-OVERLOAD tt tt refl)
      ∙ get_put_below INDONE SERVICE-OVERLOAD 64 1 icw refl (whole SERVICE-OVERLOAD tt tt refl)

  pub done_done : get INDONE (done_icw icw code mark c) ≡ 1
  unfolding done_icw
  done_done =
      beside INDONE 128 _ _ c byte refl
      ∙ get_put_above NOT-ECHOED INDONE 32 mark _ refl (whole NOT-ECHOED tt tt refl) mark-below
      ∙ get_put_above FLAGS INDONE 8 code _ refl (whole FLAGS tt tt refl) code_below
      ∙ get-put INDONE 1 icw (whole INDONE tt tt refl) (lit< tt)

module _ (icw code c : ℕ) (code_below : code < 4) (byte : word_byte (ascii icw) c < 256) where
  pub replaced_character : get CHARACTER (replaced_icw icw code c) ≡ word_byte (ascii icw) c
  unfolding replaced_icw
  replaced_character = get-put CHARACTER _ _ (whole CHARACTER tt tt refl) byte

  pub replaced_overload : get SERVICE-OVERLOAD (replaced_icw icw code c) ≡ 1
  unfolding replaced_icw
  replaced_overload =
      beside SERVICE-OVERLOAD 1 _ _ c byte refl
      ∙ get-put SERVICE-OVERLOAD 1 _ (whole SERVICE-OVERLOAD tt tt refl) (lit< tt)

  pub replaced_flags : get FLAGS (replaced_icw icw code c) ≡ code
  unfolding replaced_icw
  replaced_flags =
      beside FLAGS 4 _ _ c byte refl
      ∙ get_put_above SERVICE-OVERLOAD FLAGS 2 1 _ refl (whole SERVICE-OVERLOAD tt tt refl) (lit< tt)
      ∙ get-put FLAGS code _ (whole FLAGS tt tt refl) code_below

  pub replaced_done : get INDONE (replaced_icw icw code c) ≡ get INDONE icw
  unfolding replaced_icw
  replaced_done =
      beside INDONE 128 _ _ c byte refl
      ∙ get_put_above SERVICE-OVERLOAD INDONE 64 1 _ refl (whole SERVICE-OVERLOAD tt tt refl) (lit< tt)
      ∙ get_put_above FLAGS INDONE 8 code _ refl (whole FLAGS tt tt refl) code_below
