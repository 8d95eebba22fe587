-- What is at fault, or nothing: a test of the code's answer is one of its number.
--   code_err, code_ok   a fault has a number, and nothing has 0
use Rattle.std.specs.Prelude.{◌≡◌, Result, Ok, Err, true, false, is_err}
use Rattle.recording.specs.declared.fault.Fault.{Fault}
use Rattle.recording.specs.Fault.{code_of}
use Rattle.recording.specs.laws.Views.{number_some}
use Rattle.std.proofs.Common.{refl}

pub code_err : (r : Result (Unit {0}) Fault) → is_err r ≡ true → code_of r ≡ 0 → ⊥
code_err (Ok x) e z = cc
code_err (Err f) e z = number_some f z

pub code_ok : (r : Result (Unit {0}) Fault) → is_err r ≡ false → code_of r ≡ 0
code_ok (Ok x) e = refl
code_ok (Err f) e = cc
