-- A refusal through the door left the record as it was, so that by value it is the refusal of a call on that record.
use Rattle.std.specs.Prelude.{◌≡◌, refl, false, List, ℕ, eqb, Err}
use Rattle.std.proofs.Common.{sym, ◌∙◌, ap, eq-eqb, true≢false}
use Rattle.unit.specs.declared.mux.Mux.{Mux}
use Rattle.unit.specs.declared.refusal.Refusal.{Refusal}
use Rattle.unit.specs.declared.refusal.Refusal.TheVariants.{BadBlock, BadPorts, Misaligned, Crosses, Unsound, BadMemory, NoPort, TooMany, ShortList, TooHigh, BadLocation}
use Rattle.unit.specs.Refusals.{number_of}
use Rattle.unit.specs.Reply.{world, outcome, reply_of, replied_of}
use Rattle.calls.specs.declared.call.Call.{Call}
use Rattle.calls.specs.Calls.{step}
use Rattle.door.specs.Door.{Meets, lent}
use Rattle.door.specs.laws.Door.{call_refused}

numbered : (e : Refusal) → eqb (number_of e) 0 ≡ false
numbered BadBlock = refl
numbered BadPorts = refl
numbered Misaligned = refl
numbered Crosses = refl
numbered Unsound = refl
numbered BadMemory = refl
numbered NoPort = refl
numbered TooMany = refl
numbered ShortList = refl
numbered TooHigh = refl
numbered BadLocation = refl

pub refused_by_value : (u v : Mux) (m n xs ys : List ℕ) (c : Call) (e : Refusal) → Meets (world u m) xs c (reply_of (Err e)) v n ys → outcome (replied_of u (Err e)) n ys ≡ step (world u m) xs c
refused_by_value u v m n xs ys c e h =
    let same = call_refused u v m n xs ys c (reply_of (Err e)) h (λ z. true≢false (sym (eq-eqb _ _ z) ∙ numbered e)) in
    ap (λ w. lent (reply_of (Err e)) w n ys) (sym same.mux) ∙ h
