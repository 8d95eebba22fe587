-- An EDS-8's interrupt side is what it was before there was a Mighty Mux (document 02, K6). What it was stands here for these laws alone.
--   Was, was, plain       a flag and a status word: those of a side, and the side that has no more than them
--   fresh_was .. shown_was  what each change was
--   as_before             on any record of an EDS-8, flag, status word and what DIA returns are as they were before
--   plain_before          from a new unit on nothing stands beside flag and status word, and every change is the one that it was
-- Not here: the status word after an interrupt, which has not changed, in Status.
-- Assumes nothing.
use Rattle.std.specs.Prelude.{◌≡◌, refl, Bool, true, false, ℕ, replicate}
use Rattle.words.specs.Field.{put}
use Rattle.words.specs.Codes.{REAL-TIME}
use Rattle.interrupt.specs.declared.Kind.TheVariants.{Eds8}
use Rattle.interrupt.specs.declared.Service.{Service}
use Rattle.interrupt.specs.declared.Irq.{Irq}
use Rattle.interrupt.specs.Status.{status_after}
use Rattle.interrupt.specs.Stack.{DEPTH}
use Rattle.interrupt.specs.Interrupt.{fresh, cleared, unsound, merged, raised, started, ticked, shown}

-- ---- what there was

pub record Was : Type 0 where
  pub flag : Bool
  pub status : ℕ

abbrev pub fresh_was : Was
fresh_was = record { flag = false; status = 0 }

abbrev pub cleared_was : Was → Was
cleared_was w = fresh_was

abbrev pub unsound_was : Was → Bool
unsound_was w = false

abbrev pub raised_was : Service → ℕ → Was → Was
raised_was s address w = record { flag = true; status = status_after s address w.status }

abbrev pub started_was : Was → Was
started_was w = fresh_was

abbrev pub ticked_was : Was → Was
ticked_was w = record { flag = true; status = put REAL-TIME 1 w.status }

abbrev pub shown_was : Was → ℕ
shown_was w = w.status

-- ---- any record

-- a side's flag and status word
abbrev pub was : Irq → Was
was i = record { flag = i.flag; status = i.status }

pub record AsBefore (i : Irq) : Type 0 where
  pub reset : was (cleared i) ≡ cleared_was (was i)
  pub raise : (s : Service) (address : ℕ) → was (raised Eds8 s address i) ≡ raised_was s address (was i)
  pub start : was (started Eds8 i) ≡ started_was (was i)
  pub tick : was (ticked i) ≡ ticked_was (was i)
  pub dia : shown Eds8 i ≡ shown_was (was i)

pub as_before : (i : Irq) → AsBefore i
unfolding cleared raised merged started ticked shown
as_before i = record { reset = refl; raise = λ s address. refl; start = refl; tick = refl; dia = refl }

-- ---- from a new unit on

-- nothing but a flag and a status word
abbrev pub plain : Was → Irq
plain w = record { flag = w.flag; status = w.status; lost = false; fill = 0; stack = replicate DEPTH 0 }

pub record PlainBefore (w : Was) : Type 0 where
  pub new : fresh ≡ plain fresh_was
  pub reset : cleared (plain w) ≡ plain (cleared_was w)
  pub raise : (s : Service) (address : ℕ) → raised Eds8 s address (plain w) ≡ plain (raised_was s address w)
  pub start : started Eds8 (plain w) ≡ plain (started_was w)
  pub tick : ticked (plain w) ≡ plain (ticked_was w)
  pub dia : shown Eds8 (plain w) ≡ shown_was w
  pub sound : unsound (plain w) ≡ unsound_was w

pub plain_before : (w : Was) → PlainBefore w
unfolding cleared raised merged started ticked shown unsound
plain_before w =
    record { new = refl; reset = refl; raise = λ s address. refl; start = refl; tick = refl; dia = refl; sound = refl }
