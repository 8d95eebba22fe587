-- Laws of the door (document 01, the table of refusals, and what a proof here has to nail).
--   call_number            what is said through the door has the table's number
--   call_never_five        which is never 5 (document 02, K10)
--   AsItWas, call_refused  a refusal leaves the lent record, the memory and the list as they were, and no further result
--   Same, call_one         any two outcomes that the door's contract allows are equal
--   call_one_made          and so is what the code answered
--   made_run               after a list of calls made through the door the record and the memory are `run`'s
--   made_split             and after each first part of it
-- Not here: the case analysis of the calls, in laws/Refusals and laws/Outcomes of the crate calls.
-- Assumes nothing.
use Rattle.std.specs.Prelude.{◌≡◌, refl, List, [], ◌∷◌, ◌++◌, ℕ, Result}
use Rattle.std.proofs.Common.{sym, ◌∙◌, ap}
use Rattle.ground.specs.Machine
use Rattle.unit.specs.declared.mux.Mux.{Mux}
use Rattle.unit.specs.declared.refusal.Refusal.{Refusal}
use Rattle.unit.specs.declared.reply.Reply.{Reply as ReplyMade}
use Rattle.unit.specs.Reply.{Reply}
use Rattle.unit.specs.Reply.{Replied}
use Rattle.unit.specs.Reply.{nothing, World, world, Outcome, reply_of}
use Rattle.unit.specs.Refusals.{refusal}
use Rattle.unit.specs.laws.Views.{reply_one}
use Rattle.calls.specs.declared.call.Call.{Call}
use Rattle.calls.specs.Calls.{given_of}
use Rattle.calls.specs.Events.{Event, calls, host_writes, happens, run}
use Rattle.calls.proofs.laws.Refusals.{step_refuses, step_never_five}
use Rattle.calls.specs.laws.Outcomes.{one_outcome}
use Rattle.door.specs.Door.{Meets, Made, ready, called, written}

-- the record v, the memory n and the list ys are u, m and xs, and the reply has no further result
pub record AsItWas (u v : Mux) (m n xs ys : List ℕ) (r : Reply) : Type 0 where
  pub mux : v ≡ u
  pub memory : n ≡ m
  pub list : ys ≡ xs
  pub value : r.value ≡ 0
  pub answer : r.answer ≡ nothing
  pub made : r.made ≡ 0
  pub used : r.used ≡ 0

module _ (u v : Mux) (m n xs ys : List ℕ) (c : Call) (r : Reply) (e : Meets (world u m) xs c r v n ys) where
  -- the number is the table's
  pub call_number : r.code ≡ refusal (given_of (world u m) xs c.setting c.what)
  call_number = ap (λ (o : Outcome). o.reply.code) e ∙ (step_refuses (world u m) xs c).number

  -- and never 5
  pub call_never_five : r.code ≡ 5 → ⊥
  call_never_five h = step_never_five (world u m) xs c (sym (ap (λ (o : Outcome). o.reply.code) e) ∙ h)

  -- a refusal changes nothing
  pub call_refused : (r.code ≡ 0 → ⊥) → AsItWas u v m n xs ys r
  call_refused h =
      let same = e ∙ (step_refuses (world u m) xs c).keeps (λ z. h (call_number ∙ z)) in
      record {
        mux = ap (λ (o : Outcome). o.world.mux) same;
        memory = ap (λ (o : Outcome). o.world.memory) same;
        list = ap (λ (o : Outcome). o.list) same;
        value = ap (λ (o : Outcome). o.reply.value) same;
        answer = ap (λ (o : Outcome). o.reply.answer) same;
        made = ap (λ (o : Outcome). o.reply.made) same;
        used = ap (λ (o : Outcome). o.reply.used) same;
      }

-- two outcomes of the door that are the same in every part
pub record Same (r s : Reply) (u v : Mux) (m n xs ys : List ℕ) : Type 0 where
  pub reply : r ≡ s
  pub mux : u ≡ v
  pub memory : m ≡ n
  pub list : xs ≡ ys

-- whatever two outcomes meet the door's contract are the same
pub call_one :
    (u : Mux) (m xs : List ℕ) (c : Call) (r s : Reply) (u₁ u₂ : Mux) (m₁ m₂ xs₁ xs₂ : List ℕ) →
    Meets (world u m) xs c r u₁ m₁ xs₁ →
    Meets (world u m) xs c s u₂ m₂ xs₂ →
    Same r s u₁ u₂ m₁ m₂ xs₁ xs₂
call_one u m xs c r s u₁ u₂ m₁ m₂ xs₁ xs₂ p q =
    let one = one_outcome.step_one (world u m) xs c (record { reply = r; mux = u₁ }) (record { reply = s; mux = u₂ }) m₁ m₂ xs₁ xs₂ p q in
    record { reply = ap (λ (x : Replied). x.reply) one.0; mux = ap (λ (x : Replied). x.mux) one.0; memory = one.1.0; list = one.1.1 }

-- and what the code answered, a reply or a refusal, is one
pub call_one_made :
    (u : Mux) (m xs : List ℕ) (c : Call) (r s : Result ReplyMade Refusal) (u₁ u₂ : Mux) (m₁ m₂ xs₁ xs₂ : List ℕ) →
    Meets (world u m) xs c (reply_of r) u₁ m₁ xs₁ →
    Meets (world u m) xs c (reply_of s) u₂ m₂ xs₂ →
    r ≡ s
call_one_made u m xs c r s u₁ u₂ m₁ m₂ xs₁ xs₂ p q =
    reply_one r s (call_one u m xs c (reply_of r) (reply_of s) u₁ u₂ m₁ m₂ xs₁ xs₂ p q).reply

-- what stands after a list of calls made through the door, host writes between them, is what `run` gives
pub made_run : {w v : World} {es : List Event} → Made w es v → v ≡ run w es
unfolding Machine.run happens
made_run ready = refl
made_run (called {es = es} c r u m xs ys e rest) = made_run rest ∙ ap (λ (o : Outcome). run o.world es) e
made_run (written m rest) = made_run rest

-- a list of calls made through the door is its first part, and then the rest
pub made_split : {w v : World} (es fs : List Event) → Made w (es ++ fs) v → (u : World) × (Made w es u × Made u fs v)
made_split {w = w} [] fs m = (w, (ready, m))
made_split (calls c xs ∷ es) fs (called _ r u m _ ys e rest) =
    let s = made_split es fs rest in
    (s.0, (called c r u m xs ys e s.1.0, s.1.1))
made_split (host_writes m ∷ es) fs (written _ rest) =
    let s = made_split es fs rest in
    (s.0, (written m s.1.0, s.1.1))
