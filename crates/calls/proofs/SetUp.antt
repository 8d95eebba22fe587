-- A refused setup keeps the record that stands, by what setup answers.
use Rattle.std.specs.Prelude.{◌≡◌, refl, Result, Ok, Err}
use Rattle.ground.specs.Choose.{pick}
use Rattle.unit.specs.declared.mux.Mux.{Mux}
use Rattle.unit.specs.declared.refusal.Refusal.{Refusal}
use Rattle.unit.specs.declared.refusal.Refusal.TheVariants.{BadBlock, BadPorts, Misaligned, Crosses, Unsound, BadMemory, NoPort, TooMany, ShortList, TooHigh, BadLocation}
use Rattle.unit.specs.declared.reply.Replied.{Replied}
use Rattle.unit.specs.declared.setup.NoUnit.{NoUnit}
use Rattle.unit.specs.Reply.{failed, refused, replied_of, setup_of}
use Rattle.calls.specs.Calls.{set_up}

set_up_failed : (u v : Mux) (k : Refusal) → set_up u (record { reply = failed k; mux = v }) ≡ record { reply = failed k; mux = u }
unfolding set_up pick
set_up_failed u v BadBlock = refl
set_up_failed u v BadPorts = refl
set_up_failed u v Misaligned = refl
set_up_failed u v Crosses = refl
set_up_failed u v Unsound = refl
set_up_failed u v BadMemory = refl
set_up_failed u v NoPort = refl
set_up_failed u v TooMany = refl
set_up_failed u v ShortList = refl
set_up_failed u v TooHigh = refl
set_up_failed u v BadLocation = refl

pub set_up_stays : (u : Mux) (e : NoUnit) → set_up u (setup_of (Err e)) ≡ replied_of u (Err e.refusal)
set_up_stays u e = set_up_failed u e.mux e.refusal

pub set_up_answers : (u : Mux) (r : Replied) → set_up u (setup_of (Ok r)) ≡ replied_of u (Ok r)
unfolding set_up pick
set_up_answers u r = refl
