-- The number of an answer is 0 exactly where the call is not refused.
use Rattle.std.specs.Prelude.{◌≡◌, refl, eqb, is_ok, Result, Ok, Err}
use Rattle.unit.specs.declared.refusal.Refusal.{Refusal}
use Rattle.unit.specs.declared.refusal.Refusal.TheVariants.{BadBlock, BadPorts, Misaligned, Crosses, Unsound, BadMemory, NoPort, TooMany, ShortList, TooHigh, BadLocation}
use Rattle.unit.specs.declared.reply.Replied.{Replied}
use Rattle.day.specs.Names.{answer_code}

pub accepted : (r : Result Replied Refusal) → is_ok r ≡ eqb (answer_code r) 0
accepted (Ok r) = refl
accepted (Err BadBlock) = refl
accepted (Err BadPorts) = refl
accepted (Err Misaligned) = refl
accepted (Err Crosses) = refl
accepted (Err Unsound) = refl
accepted (Err BadMemory) = refl
accepted (Err NoPort) = refl
accepted (Err TooMany) = refl
accepted (Err ShortList) = refl
accepted (Err TooHigh) = refl
accepted (Err BadLocation) = refl
